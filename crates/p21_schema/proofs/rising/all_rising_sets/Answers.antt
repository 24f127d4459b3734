use Rattle.std.specs.Prelude.{◌<◌, ◌++◌, ◌∷◌, [], ℕ, List, length}
use Rattle.std.proofs.Common.{arith, ap, sym, subst, length-append}
use Rattle.p21_express_graph.proofs.Resolving.{own-entities}
use Rattle.p21_schema.specs.RisingSets.{EachRising, IsRisingSet, RisingSet}
use Rattle.p21_schema.proofs.Numbered.{each-more}
use Rattle.p21_schema.proofs.rising.all_rising_sets.Goals as goal

pub few_rising-requires : goal.few_rising-requires
few_rising-requires c =
    let s = c.args.hierarchy.now in
    let e : ℕ = c.loop-number.number in
    let below : e < length s.entities = omega (arith, c.loop-number-test.true, c.entities-count.ensures) in
    (s, c.requires, own-entities s c.holds_together.ensures e below _ c.order_of-order.ensures)

pub loop-number-preserved : goal.loop-number-preserved
loop-number-preserved c =
    let s = c.args.hierarchy.now in
    let sets : List RisingSet = c.loop-number.sets.items in
    let set : RisingSet = c.in_ok-set.set in
    let is : IsRisingSet s c.loop-number.number set = c.in_ok-set.ensures s c.loop-number.number c.requires c.order_of-order.ensures in
    let P : ℕ → Type 0 = λ n. IsRisingSet s n set in
    let each : EachRising s (sets ++ set ∷ []) = each-more (IsRisingSet s) sets set c.loop-number.invariant.1
    (subst P (sym c.loop-number.invariant.0) is) in (
      omega (arith, ap length c.in_ok-push.ensures.items, length-append sets (set ∷ []), c.loop-number.invariant.0),
      subst (EachRising s) (sym c.in_ok-push.ensures.items) each,
    )
