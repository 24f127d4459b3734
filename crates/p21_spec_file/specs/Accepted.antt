-- The files that are accepted within limits, and the bytes with which none begins (this project's own, on exchange
-- structures of ISO 10303-21).
use Rattle.std.specs.Prelude.{ℕ, ◌≤◌, List, ◌++◌, length}
use Rattle.std.specs.List.{AllByRecursion as Each}
use Rattle.p21_spec_file.specs.Canonical.{Canonical}
use Rattle.p21_spec_exchange.specs.CanonicalText.{statement_text}
use Rattle.p21_spec_basics.specs.Digits.{IsByte}
use Rattle.p21_spec_file.specs.File.{FileMeaning, Reads}
use Rattle.p21_spec_exchange.specs.Laying.{AreStatementsWithin}
use Rattle.p21_spec_basics.specs.Limits.{Limits}
use Rattle.p21_spec_file.specs.SameFile.{SameFileMeaning}
use Rattle.p21_spec_schema.specs.Schema.{Schema}
use Rattle.p21_spec_exchange.specs.Statement.{Statement}
use Rattle.p21_spec_exchange.specs.Structure.{statements}

-- a canonical line is within its limit
abbrev pub IsLineWithin : Limits → Statement → Type 0
IsLineWithin limits statement = length (statement_text statement) ≤ limits.record_canonical

-- a canonical file that means the same, within the limits, each line with no LF counted
pub record IsCanonicalOf (s : Schema) (limits : Limits) (meaning : FileMeaning) (bytes : List ℕ) : Type 0 where
  pub canonical : Canonical s bytes
  pub same : SameFileMeaning canonical.meaning meaning
  pub file_within : length bytes ≤ limits.file_canonical
  pub lines_within : Each (IsLineWithin limits) (statements canonical.reads.structure)

-- what bytes mean within the limits: they read as this, and a canonical file of it is within the limits too
pub record Means (s : Schema) (limits : Limits) (bytes : List ℕ) (meaning : FileMeaning) : Type 0 where
  pub reads : Reads s bytes meaning
  pub file_within : length bytes ≤ limits.file_source
  pub statements_within : AreStatementsWithin limits.record_source 0 reads.in_grammar.laid.lexemes
  pub canonical : List ℕ
  pub is_canonical : IsCanonicalOf s limits meaning canonical

-- the bytes mean something within the limits
abbrev pub IsAccepted : Schema → Limits → List ℕ → Type 0
IsAccepted s limits bytes = (meaning : FileMeaning) × Means s limits bytes meaning

-- a canonical file of accepted bytes
abbrev pub IsCanonicalFile : Schema → Limits → List ℕ → List ℕ → Type 0
IsCanonicalFile s limits bytes canonical = (meaning : FileMeaning) × Means s limits bytes meaning × IsCanonicalOf s limits meaning canonical

-- no accepted byte list begins with these bytes
abbrev pub IsDead : Schema → Limits → List ℕ → Type 0
IsDead s limits bytes = (more : List ℕ) → Each IsByte more → IsAccepted s limits (bytes ++ more) → ⊥
