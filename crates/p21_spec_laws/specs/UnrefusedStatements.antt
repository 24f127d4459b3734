-- What a session knows of the statements of a file that it has taken, where it has refused none.
use Rattle.std.specs.Prelude.{◌≡◌, ◌≤◌, ◌+◌, ℕ, suc, List, [], ◌∷◌, ◌++◌, map, length, nat_eq, sum_by}
use Rattle.std.specs.List.{IsDistinct, AllByRecursion as Each}
use Rattle.std.specs.Str.{bytes_eq}
use Rattle.p21_spec_basics.specs.Limits.{Limits}
use Rattle.p21_spec_laws.specs.CompleteFile.{Entry, SectionEntries, IsMeant, IsPrinted, entries_in, section_of, written_in}
use Rattle.p21_spec_laws.specs.SizeLaws.{framing}
use Rattle.p21_spec_laws.specs.Taken.{instances_among, names_among, section_names_among}
use Rattle.p21_spec_laws.specs.Among.{parts_among, sections_among}
use Rattle.p21_spec_exchange.specs.CanonicalText.{statement_text}
use Rattle.p21_spec_exchange.specs.DataSection.{DataSection}
use Rattle.p21_spec_exchange.specs.Header.{IsFileSchema}
use Rattle.p21_spec_exchange.specs.Record.{Part, Record}
use Rattle.p21_spec_exchange.specs.Statement.{SectionLine, data_start, Statement, section, header, instance}
use Rattle.p21_spec_file.specs.Accepted.{IsLineWithin}
use Rattle.p21_spec_file.specs.File.{HeadingNamesSchema}
use Rattle.p21_spec_schema.specs.Schema.{Schema}
use Rattle.p21_spec_schema.specs.SchemaName.{NamesSchema}

-- ---- data sections that grow

-- an instance behind those of the last section
abbrev pub with_instance : List DataSection → ℕ × Record → List DataSection
with_instance [] i = []
with_instance (x ∷ []) i = record { heading = x.heading; instances = x.instances ++ (i ∷ []) } ∷ []
with_instance (x ∷ next ∷ more) i = x ∷ with_instance (next ∷ more) i

-- the same with what was found of the instance
abbrev pub with_entry : List SectionEntries → Entry → List SectionEntries
with_entry [] entry = []
with_entry (g ∷ []) entry = record { heading = g.heading; entries = g.entries ++ (entry ∷ []) } ∷ []
with_entry (g ∷ next ∷ more) entry = g ∷ with_entry (next ∷ more) entry

-- a data section that begins
abbrev pub sections_behind : List DataSection → SectionLine → List DataSection
sections_behind sections (data_start heading) = sections ++ (record { heading = heading; instances = [] } ∷ [])
sections_behind sections other = sections

abbrev pub section_entries_behind : List SectionEntries → SectionLine → List SectionEntries
section_entries_behind groups (data_start heading) = groups ++ (record { heading = heading; entries = [] } ∷ [])
section_entries_behind groups other = groups

-- the instances, each with the number of its section, counted from the first
abbrev pub numbered_entries_from : ℕ → List SectionEntries → List (ℕ × Entry)
numbered_entries_from number [] = []
numbered_entries_from number (g ∷ rest) = map (λ (e : Entry). (number, e)) g.entries ++ numbered_entries_from (suc number) rest

abbrev pub numbered_entries_in : List SectionEntries → List (ℕ × Entry)
numbered_entries_in groups = numbered_entries_from 0 groups

-- ---- what holds of each statement by itself

-- a data section with a name names the schema
abbrev pub SectionLineNamesSchema : List ℕ → SectionLine → Type 0
SectionLineNamesSchema schema (data_start heading) = HeadingNamesSchema schema heading
SectionLineNamesSchema schema other = Unit {0}

-- the canonical line of a section line or a header record is within its limit, and its schema text names the schema
abbrev pub IsFitting : Schema → Limits → Statement → Type 0
IsFitting s limits (section line_) = IsLineWithin limits (section line_) × SectionLineNamesSchema s.name line_
IsFitting s limits (header part) = IsLineWithin limits (header part) × ((chars : List ℕ) → IsFileSchema part chars → NamesSchema chars s.name)
IsFitting s limits (instance n record_) = Unit {0}

-- the meaning and the canonical text of an instance were found, and the text is within its limit
pub record IsFound (s : Schema) (limits : Limits) (entry : Entry) : Type 0 where
  pub meant : IsMeant s entry
  pub printed : IsPrinted s entry
  pub within : length entry.text ≤ limits.record_canonical

-- ---- canonical bytes

-- the bytes of the canonical lines of header records and instances, with no LF
abbrev pub canonical_size : List Statement → List SectionEntries → ℕ
canonical_size given groups = sum_by (λ (part : Part). length (statement_text (header part))) (parts_among given) + sum_by (λ (entry : Entry). length entry.text) (entries_in groups)

-- ---- all together

-- The statements given, none of which was refused: their data sections with what was found of each instance; section
-- lines and header records fit; names differ; and the canonical lines are within the limit of a canonical file
pub record AreUnrefused (s : Schema) (limits : Limits) (given : List Statement) (groups : List SectionEntries) : Type 0 where
  pub sections_are : sections_among given ≡ map section_of groups
  pub instances_are : instances_among given ≡ written_in (entries_in groups)
  pub fitting : Each (IsFitting s limits) given
  pub found : Each (IsFound s limits) (entries_in groups)
  pub section_names_differ : IsDistinct bytes_eq (section_names_among given)
  pub names_differ : IsDistinct nat_eq (names_among given)
  pub size_within : canonical_size given groups + framing given ≤ limits.file_canonical
