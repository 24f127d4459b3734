use Rattle.std.specs.Prelude.{◌≡◌, take}
use Rattle.p21_mapping_values.specs.TypedView.{ids_view}
use Rattle.p21_pairing.proofs.kinds.entities.Given as goal

abbrev pub invariant-loop-part : goal.invariant-loop-part
invariant-loop-part l = l.row.items ≡ ids_view (take l.part-index l.parts)
