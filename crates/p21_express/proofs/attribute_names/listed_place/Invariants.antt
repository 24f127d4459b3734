use Rattle.std.proofs.Common.{ℕ, ◌<◌}
use Rattle.p21_spec_schema.specs.Schema.{PlaceNamed}
use Rattle.p21_express.proofs.attribute_names.listed_place.Given as goal

-- none so far has the name
abbrev pub invariant-loop-index : goal.invariant-loop-index
invariant-loop-index l = (k : ℕ) → k < l.index → PlaceNamed l.hierarchy (record { entity = l.entity.0; index = k }) l.name → ⊥
