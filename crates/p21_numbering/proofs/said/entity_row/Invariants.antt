use Rattle.std.specs.Prelude.{◌≡◌, map, suc, take}
use Rattle.p21_mapping_values.specs.TypedView.{ids_view}
use Rattle.p21_numbering.proofs.said.entity_row.Given as goal

abbrev pub invariant-loop-entity : goal.invariant-loop-entity
invariant-loop-entity l = l.row.items ≡ map suc (ids_view (take l.entity-index l.entities))
