-- A file beside an earlier one: what tells whether they have one canonical file, by what is kept of each.
use Rattle.std.specs.Prelude.{◌≡◌, ◌≤◌, ◌↔◌, ℕ, Bool, IsTrue, List, length, slice_get, Contains}
use Rattle.std.specs.List.{AllByRecursion as Each}
use Rattle.p21_spec_basics.specs.Limits.{Limits}
use Rattle.p21_spec_laws.specs.Keeping.{IsServedBy, Keeps, Kept}
use Rattle.p21_spec_laws.specs.Stored.{Earlier, StoredEntry, beside, with_lines}
use Rattle.p21_spec_laws.specs.Waiting.{Reference}
use Rattle.p21_spec_exchange.specs.DataSection.{Heading}
use Rattle.p21_spec_exchange.specs.Grammar.{IsFile}
use Rattle.p21_spec_exchange.specs.Laying.{AreStatementsWithin, Laid}
use Rattle.p21_spec_exchange.specs.Statement.{Statement}
use Rattle.p21_spec_exchange.specs.Structure.{Structure, statements, tokens_of}
use Rattle.p21_spec_file.specs.Accepted.{IsCanonicalFile}
use Rattle.p21_spec_schema.specs.Schema.{Schema}
use Rattle.p21_spec_schema.specs.WellFormed.{IsWellFormed}

-- this is kept of the statements of a whole file, whose references are served
pub record IsKeptOfWhole (s : Schema) (limits : Limits) (bytes : List ℕ) (kept : Kept) : Type 0 where
  pub given : List Statement
  pub keeps : Keeps s limits given kept
  pub structure : Structure
  pub text : List ℕ
  pub is_file : IsFile structure text
  pub statements_are : statements structure ≡ given
  pub laid : Laid bytes (tokens_of structure)
  pub statements_within : AreStatementsWithin limits.record_source 0 laid.lexemes
  pub source_within : length bytes ≤ limits.file_source
  pub served : Each (λ (r : Reference). IsServedBy s kept.stored r.1) kept.waiting

-- what a later file stands beside
abbrev pub earlier_of : Kept → Earlier
earlier_of kept = record { header = kept.header; headings = kept.headings; stored = kept.stored }

-- an instance of the earlier file stands in a section that begins as the section of the instance of its name does
abbrev pub IsInSameSection : Earlier → List Heading → List StoredEntry → StoredEntry → Type 0
IsInSameSection earlier headings stored y = (x : StoredEntry) → Contains stored x → x.name ≡ y.name → slice_get headings x.section ≡ slice_get earlier.headings y.section

-- Each line is one of the earlier file, and there are as many; so are the headings; the header lines are the same bytes; and each
-- instance stands in the same section
pub record IsSameBeside (earlier : Earlier) (equal : Bool) (header : List ℕ) (headings : List Heading) (stored : List StoredEntry) : Type 0 where
  pub lines_are : IsTrue equal
  pub as_many_lines : length stored ≡ length earlier.stored
  pub header_is : header ≡ earlier.header
  pub headings_are : Each (Contains earlier.headings) headings
  pub as_many_headings : length headings ≡ length earlier.headings
  pub sections_are : (y : StoredEntry) → Contains earlier.stored y → IsInSameSection earlier headings stored y

abbrev pub IsSameAs : Earlier → Kept → Type 0
IsSameAs earlier kept = IsSameBeside earlier kept.equal kept.header kept.headings kept.stored

-- That is so exactly if both have one canonical file
abbrev pub KeptTellSame : Type 0
KeptTellSame = (s : Schema) → IsWellFormed s → (limits : Limits) (bytes others : List ℕ) (first second : Kept) → IsKeptOfWhole s limits bytes first → IsKeptOfWhole s limits others second
    → first.lines ≡ with_lines → second.lines ≡ beside (earlier_of first)
    → IsSameAs (earlier_of first) second ↔ ((text : List ℕ) × IsCanonicalFile s limits bytes text × IsCanonicalFile s limits others text)
