use Rattle.std.proofs.Common.{ℕ, ◌<◌, map, slice_index_or}
use Rattle.p21_express.specs.Derived.{DerivesItself}
use Rattle.p21_express_syntax.specs.Views.{entity_view}
use Rattle.p21_express.proofs.derived.derives_name.Given as goal

-- none so far derives the name
abbrev pub invariant-loop-owner : goal.invariant-loop-owner
invariant-loop-owner l = (k : ℕ) → k < l.owner-index
    → DerivesItself (map entity_view l.declared) (slice_index_or l.owner-items k record { 0 = 0 }).0 l.name → ⊥
