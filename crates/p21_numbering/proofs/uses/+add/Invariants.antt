use Rattle.std.specs.Prelude.{◌≡◌, ◌++◌, ◌∷◌, [], map, take}
use Rattle.p21_mapping_values.specs.View.{views}
use Rattle.p21_numbering.specs.PlacedUses.{behind, held_uses}
use Rattle.p21_spec_numbering.specs.Uses.{uses_among, uses_from}
use Rattle.p21_numbering.proofs.uses.+add.Given as goal

abbrev pub invariant-add_in_order-loop-i : goal.invariant-add_in_order-loop-i
invariant-add_in_order-loop-i l = (held_uses l.uses.items ≡ held_uses l.fn.uses.items
    ++ map (behind l.fn.place.items) (uses_from l.first (views (take l.i l.values)))) × (l.place.items ≡ l.fn.place.items)

abbrev pub invariant-add_among-loop-value : goal.invariant-add_among-loop-value
invariant-add_among-loop-value l = (held_uses l.uses.items ≡ held_uses l.fn.uses.items
    ++ map (behind l.fn.place.items) (uses_among (views (take l.value-index l.values)))) × (l.place.items ≡ l.fn.place.items ++ 0 ∷ [])
