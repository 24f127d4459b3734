use Rattle.std.proofs.Common.{ℕ, ◌<◌}
use Rattle.p21_spec_schema.specs.PlaceType.{TypeAt, two_redeclarations}
use Rattle.p21_mapping.proofs.places.has_open_place_of.Given as goal

abbrev pub invariant-loop-index : goal.invariant-loop-index
invariant-loop-index l = (k : ℕ) → k < l.index → TypeAt l.schema l.set (record { entity = l.entity.0; index = k }) two_redeclarations → ⊥
