use Rattle.std.proofs.Common.{◌≡◌, ◌<◌, ℕ, Some, slice_get}
use Rattle.p21_spec_exchange.specs.DataSection.{unnamed}
use Rattle.p21_stream_kept.specs.Sections.{headings_of}
use Rattle.p21_stream_kept.proofs.sections.unnamed_number.Given as goal

-- those so far have names
abbrev pub invariant-loop-number : goal.invariant-loop-number
invariant-loop-number l = (k : ℕ) → k < l.number → slice_get (headings_of l.sections) k ≡ Some unnamed → ⊥
