use Rattle.std.specs.Prelude.{◌≡◌, ◌++◌, ◌∷◌, [], length}
use Rattle.std.proofs.Common.{arith, ap, ◌∙◌}
use Rattle.std.proofs.lemmas.List.{map-append}
use Rattle.p21_express_graph.specs.Orders.{numbers, number_lists}
use Rattle.p21_express_graph.specs.declared.prefixes.RunPrefix.{RunPrefix}
use Rattle.p21_express_graph.proofs.prefixes.PrefixLists.put_run.Goals as goal
use Rattle.p21_express_graph.proofs.Gatherings.{mapped-length}
use Rattle.p21_express_graph.proofs.SharedRuns.{put-lists, put-within, run-below, run-unchanged, run-new}

pub returns-clause-prefixes : goal.returns-clause-prefixes
returns-clause-prefixes c =
    let runs = number_lists c.args.self.now.runs.items in
    let after = number_lists c.push.new.self.items in
    let list = numbers c.args.list.items in
    let new : RunPrefix = record { run = c.len-run.result; size = c.len-size.result } in
    let after_is : after ≡ runs ++ list ∷ [] = ap number_lists c.in_ok-push.ensures.items ∙ map-append (λ x. numbers x.items) c.args.self.now.runs.items (c.args.list ∷ []) in
    let run : new.run ≡ length runs = omega (arith, c.len-run.ensures, c.args.self.now.runs.ok.0, mapped-length (λ x. numbers x.items) c.args.self.now.runs.items) in
    let size : new.size ≡ length list = omega (arith, c.len-size.ensures, c.args.list.ok.0, mapped-length (λ e. e.0) c.args.list.items) in
    put-within runs after c.args.self.now.prefixes.items c.args.number new list c.requires.prefixes (run-unchanged runs after list after_is) (run-new runs after list after_is new run size)

pub returns-clause-lists : goal.returns-clause-lists
returns-clause-lists c =
    let runs = number_lists c.args.self.now.runs.items in
    let after = number_lists c.push.new.self.items in
    let list = numbers c.args.list.items in
    let new : RunPrefix = record { run = c.len-run.result; size = c.len-size.result } in
    let after_is : after ≡ runs ++ list ∷ [] = ap number_lists c.in_ok-push.ensures.items ∙ map-append (λ x. numbers x.items) c.args.self.now.runs.items (c.args.list ∷ []) in
    let run : new.run ≡ length runs = omega (arith, c.len-run.ensures, c.args.self.now.runs.ok.0, mapped-length (λ x. numbers x.items) c.args.self.now.runs.items) in
    let size : new.size ≡ length list = omega (arith, c.len-size.ensures, c.args.list.ok.0, mapped-length (λ e. e.0) c.args.list.items) in
    put-lists runs after c.args.self.now.prefixes.items c.args.number new list c.requires.prefixes (run-unchanged runs after list after_is) (run-new runs after list after_is new run size)

pub returns-clause-below : goal.returns-clause-below
returns-clause-below c = run-below (number_lists c.args.self.now.runs.items) (number_lists c.push.new.self.items) (numbers c.args.list.items) (ap number_lists c.in_ok-push.ensures.items ∙ map-append (λ x. numbers x.items) c.args.self.now.runs.items (c.args.list ∷ []))
