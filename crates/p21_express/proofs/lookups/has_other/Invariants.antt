use Rattle.std.proofs.Common.{ℕ, ◌≢◌, ◌<◌, get_or}
use Rattle.p21_spec_schema.specs.Schema.{Place}
use Rattle.p21_express_graph.specs.Meaning.{place as place_of}
use Rattle.p21_express.specs.Candidates.{IsPlaceAbove}
use Rattle.p21_express.proofs.lookups.has_other.Given as goal

-- none so far has another place of the name
abbrev pub invariant-loop-owner : goal.invariant-loop-owner
invariant-loop-owner l = (k : ℕ) → k < l.owner-index → (place : Place)
    → IsPlaceAbove l.hierarchy l.entity.0 (get_or l.owner-items k record { 0 = 0 }).0 l.name place → place ≢ place_of l.first → ⊥
