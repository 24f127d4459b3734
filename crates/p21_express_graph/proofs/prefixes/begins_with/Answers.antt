use Rattle.std.specs.Prelude.{◌≡◌, ◌<◌, ℕ, length, drop}
use Rattle.std.proofs.Common.{arith, sym, ◌∙◌, get_or}
use Rattle.std.proofs.lemmas.List.{get_or-map}
use Rattle.std.proofs.lemmas.List.Prefix.{front_from_reads}
use Rattle.p21_express_graph.specs.Orders.{numbers}
use Rattle.p21_express_graph.proofs.prefixes.begins_with.Goals as goal
use Rattle.p21_express_graph.proofs.Gatherings.{mapped-length}
use Rattle.p21_express_graph.proofs.Lookups.{up-to}

pub loop-place-preserved : goal.loop-place-preserved
loop-place-preserved c =
    let k : ℕ = c.loop-place.place in
    let low : k < length c.args.list.now = omega (arith, c.loop-place-test.true, c.if-list-run.false) in
    let list_at : get_or (numbers c.args.list.now) k 0 ≡ (get_or c.args.list.now k record { 0 = 0 }).0 = get_or-map (λ e. e.0) c.args.list.now k record { 0 = 0 } 0 low in
    let run_at : get_or (numbers c.args.run.now) k 0 ≡ (get_or c.args.run.now k record { 0 = 0 }).0 = get_or-map (λ e. e.0) c.args.run.now k record { 0 = 0 } 0 c.loop-place-test.true in
    up-to (λ i. get_or (numbers c.args.list.now) i 0 ≡ get_or (numbers c.args.run.now) i 0) k c.loop-place.invariant (list_at ∙ c.if-list-place.false ∙ sym run_at)

pub returns : goal.returns
returns c told =
    let n = mapped-length (λ e. e.0) c.args.list.now in
    let m = mapped-length (λ e. e.0) c.args.run.now in (
      drop (length (numbers c.args.run.now)) (numbers c.args.list.now),
      front_from_reads 0 (numbers c.args.list.now) (numbers c.args.run.now) (omega (arith, n, m, c.if-list-run.false)) (λ i below. c.loop-place.invariant i (omega (arith, below, m, c.loop-place-test.false))),
    )
