use Rattle.std.specs.Prelude.{◌≡◌, ◌<◌, length, slice_set, refl}
use Rattle.std.proofs.Common.{arith}
use Rattle.p21_express_graph.specs.Orders.{numbers, number_lists}
use Rattle.p21_express_graph.specs.declared.prefixes.RunPrefix.{RunPrefix}
use Rattle.p21_express_graph.proofs.prefixes.PrefixLists.put_over.Goals as goal
use Rattle.p21_express_graph.proofs.Gatherings.{mapped-length}
use Rattle.p21_express_graph.proofs.OrderTables.{map-set}
use Rattle.p21_express_graph.proofs.SharedRuns.{over-below, over-unchanged, over-new, put-lists, put-within}

pub returns-clause-prefixes : goal.returns-clause-prefixes
returns-clause-prefixes c =
    let runs = number_lists c.args.self.now.runs.items in
    let after = number_lists (slice_set c.args.self.now.runs.items c.args.run c.args.list) in
    let list = numbers c.args.list.items in
    let new : RunPrefix = record { run = c.args.run; size = c.len-size.result } in
    let after_is : after ≡ slice_set runs c.args.run list = map-set (λ x. numbers x.items) c.args.self.now.runs.items c.args.run c.args.list in
    let below : c.args.run < length runs = omega (arith, c.requires.run, mapped-length (λ x. numbers x.items) c.args.self.now.runs.items) in
    let size : new.size ≡ length list = omega (arith, c.len-size.ensures, c.args.list.ok.0, mapped-length (λ e. e.0) c.args.list.items) in
    put-within runs after c.args.self.now.prefixes.items c.args.number new list c.requires.prefixes (over-unchanged runs after c.args.run list below c.requires.begins after_is) (over-new runs after c.args.run list below c.requires.begins after_is new refl size)

pub returns-clause-lists : goal.returns-clause-lists
returns-clause-lists c =
    let runs = number_lists c.args.self.now.runs.items in
    let after = number_lists (slice_set c.args.self.now.runs.items c.args.run c.args.list) in
    let list = numbers c.args.list.items in
    let new : RunPrefix = record { run = c.args.run; size = c.len-size.result } in
    let after_is : after ≡ slice_set runs c.args.run list = map-set (λ x. numbers x.items) c.args.self.now.runs.items c.args.run c.args.list in
    let below : c.args.run < length runs = omega (arith, c.requires.run, mapped-length (λ x. numbers x.items) c.args.self.now.runs.items) in
    let size : new.size ≡ length list = omega (arith, c.len-size.ensures, c.args.list.ok.0, mapped-length (λ e. e.0) c.args.list.items) in
    put-lists runs after c.args.self.now.prefixes.items c.args.number new list c.requires.prefixes (over-unchanged runs after c.args.run list below c.requires.begins after_is) (over-new runs after c.args.run list below c.requires.begins after_is new refl size)

pub returns-clause-below : goal.returns-clause-below
returns-clause-below c =
    let runs = number_lists c.args.self.now.runs.items in
    let after = number_lists (slice_set c.args.self.now.runs.items c.args.run c.args.list) in
    let list = numbers c.args.list.items in
    let after_is : after ≡ slice_set runs c.args.run list = map-set (λ x. numbers x.items) c.args.self.now.runs.items c.args.run c.args.list in
    let below : c.args.run < length runs = omega (arith, c.requires.run, mapped-length (λ x. numbers x.items) c.args.self.now.runs.items) in
    over-below runs after c.args.run list below c.requires.begins after_is
