use Rattle.std.proofs.Common.{ℕ, ◌<◌, get_or}
use Rattle.p21_spec_schema.specs.Schema.{Place}
use Rattle.p21_express.specs.Candidates.{IsPlaceAbove}
use Rattle.p21_express.proofs.lookups.first_place.Given as goal

-- none so far has a place of the name
abbrev pub invariant-loop-owner : goal.invariant-loop-owner
invariant-loop-owner l = (k : ℕ) → k < l.owner-index → (place : Place)
    → IsPlaceAbove l.hierarchy l.entity.0 (get_or l.owner-items k record { 0 = 0 }).0 l.name place → ⊥
