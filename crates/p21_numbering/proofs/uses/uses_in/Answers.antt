use Rattle.std.specs.Prelude.{◌≡◌, ◌++◌, ◌∷◌, [], ℕ, List, map}
use Rattle.std.proofs.Common.{arith, ap, ◌∙◌}
use Rattle.p21_mapping_values.specs.View.{views}
use Rattle.p21_numbering.specs.PlacedUses.{behind, held_uses}
use Rattle.p21_numbering.proofs.UseWalks.{popped, rows-next}
use Rattle.p21_spec_numbering.specs.Uses.{uses_from}
use Rattle.p21_numbering.proofs.uses.uses_in.Goals as goal

pub loop-k-preserved : goal.loop-k-preserved
loop-k-preserved c =
    let pushed : c.push.new.self.items ≡ c.loop-k.k ∷ [] = c.in_ok-push.ensures.items
    ∙ ap (λ (xs : List ℕ). xs ++ c.loop-k.k ∷ []) c.loop-k.invariant.1 in (
      rows-next c.loop-k.k c.items-rows.result.now c.index-rows-k.result c.items.result.now (held_uses c.loop-k.uses.items)
          (held_uses c.add_in_order.new.uses.items) c.index-rows-k.is c.loop-k-test.true c.items.ensures c.loop-k.invariant.0
          (c.in_ok-add_in_order.ensures.uses ∙ ap (λ (p : List ℕ). held_uses c.loop-k.uses.items
          ++ map (behind p) (uses_from 0 (views c.items.result.now))) pushed),
      popped [] c.loop-k.k _ c.add_in_order.new.place.items c.pop.new.self.items (c.in_ok-add_in_order.ensures.place ∙ pushed)
          (omega (arith, c.add_in_order.new.place.ok.0)) c.pop.ensures.rest,
    )
