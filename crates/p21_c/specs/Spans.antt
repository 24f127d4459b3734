-- Bytes that are handed out where they lie.
use Rattle.std.specs.Prelude.{◌≡◌, ◌⊎◌, ℕ, List, Option, None, Some, length}
use Rattle.std.specs.Ptr.{as_ptr}
use denote.Ref.{Bor}
use Rattle.p21_c.specs.Reports.{done, refused, misused}
use Rattle.p21_c.specs.declared.spans.Span.{Span}

-- where these bytes lie, and how many they are
abbrev pub span_of : Bor (List ℕ) → Span
span_of r = record { bytes = as_ptr r; length = length r.now }

-- bytes are handed out of which this holds
abbrev pub IsSpanOf : (List ℕ → Type 0) → Span → Type 0
IsSpanOf Is span = (r : Bor (List ℕ)) × Is r.now × (span ≡ span_of r)

-- such bytes; or none, since this holds
abbrev pub ShowsSpan : (List ℕ → Type 0) → Type 0 → ℕ → Span → Span → Type 0
ShowsSpan Is None_is status old new = (IsSpanOf Is new × (status ≡ done)) ⊎ (None_is × (new ≡ old) × (status ≡ refused))
