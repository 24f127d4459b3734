use Rattle.std.specs.Prelude.{◌≡◌, ◌+◌, ◌++◌, ◌∷◌, [], ℕ, List, map}
use Rattle.std.proofs.Common.{arith, ap, ◌∙◌}
use Rattle.p21_mapping_values.specs.View.{view}
use Rattle.p21_numbering.specs.PlacedUses.{behind, held_uses}
use Rattle.p21_numbering.proofs.UseWalks.{among-next, from-next, popped}
use Rattle.p21_spec_numbering.specs.Uses.{value_uses}
use Rattle.p21_numbering.proofs.uses.+add.Goals as goal

pub add_among-loop-value-preserved : goal.add_among-loop-value-preserved
add_among-loop-value-preserved t c = (
  among-next c.args.place.now.items c.loop-value.value-index c.args.values.now c.value-item.result (held_uses c.args.uses.now.items)
      (held_uses c.loop-value.uses.items) (held_uses c.add_value.new.uses.items) c.value-item.is c.loop-value-test.true
      c.loop-value.invariant.0
      (c.in_ok-add_value.ensures.uses ∙ ap (λ (p : List ℕ). held_uses c.loop-value.uses.items
      ++ map (behind p) (value_uses (view c.value-item.result))) c.loop-value.invariant.1),
  c.in_ok-add_value.ensures.place ∙ c.loop-value.invariant.1,
)

pub add_in_order-loop-i-preserved : goal.add_in_order-loop-i-preserved
add_in_order-loop-i-preserved t c =
    let pushed : c.push.new.self.items ≡ c.args.place.now.items ++ (c.args.first + c.loop-i.i) ∷ [] = c.in_ok-push.ensures.items
    ∙ ap (λ (xs : List ℕ). xs ++ (c.args.first + c.loop-i.i) ∷ []) c.loop-i.invariant.1 in (
      from-next c.args.place.now.items c.args.first c.loop-i.i c.args.values.now c.index-values-i.result (held_uses c.args.uses.now.items)
          (held_uses c.loop-i.uses.items) (held_uses c.add_value.new.uses.items) c.index-values-i.is c.loop-i-test.true c.loop-i.invariant.0
          (c.in_ok-add_value.ensures.uses ∙ ap (λ (p : List ℕ). held_uses c.loop-i.uses.items
          ++ map (behind p) (value_uses (view c.index-values-i.result))) pushed),
      popped c.args.place.now.items (c.args.first + c.loop-i.i) _ c.add_value.new.place.items c.pop.new.self.items
          (c.in_ok-add_value.ensures.place ∙ pushed) (omega (arith, c.add_value.new.place.ok.0)) c.pop.ensures.rest,
    )
