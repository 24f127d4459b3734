use Rattle.std.specs.Prelude.{◌≡◌, [], take}
use Rattle.p21_mapping_values.specs.TypedView.{rows_view}
use Rattle.p21_numbering.specs.PlacedUses.{held_uses}
use Rattle.p21_spec_numbering.specs.Uses.{rows_uses}
use Rattle.p21_numbering.proofs.uses.uses_in.Given as goal

abbrev pub invariant-loop-k : goal.invariant-loop-k
invariant-loop-k l = (held_uses l.uses.items ≡ rows_uses 0 (rows_view (take l.k l.rows))) × (l.place.items ≡ [])
