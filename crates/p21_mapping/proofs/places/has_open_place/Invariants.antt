use Rattle.std.proofs.Common.{ℕ, ◌<◌, slice_index_or}
use Rattle.p21_spec_file.specs.Meaning.{HasPlaceTypes}
use Rattle.p21_mapping.proofs.places.has_open_place.Given as goal

abbrev pub invariant-loop-entity : goal.invariant-loop-entity
invariant-loop-entity l = (k : ℕ) → k < l.entity-index → HasPlaceTypes l.schema l.set (slice_index_or l.entities k record { 0 = 0 }).0
