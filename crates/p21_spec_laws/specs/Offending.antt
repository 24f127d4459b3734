-- Why a session refuses a statement or a reference, each by the number with which it does (this project's own numbers).
use Rattle.std.specs.Prelude.{◌≡◌, ◌+◌, ◌<◌, ℕ, List, map, length, Contains}
use Rattle.p21_spec_basics.specs.Limits.{Limits}
use Rattle.p21_spec_laws.specs.CompleteFile.{Entry}
use Rattle.p21_spec_laws.specs.SizeLaws.{framing}
use Rattle.p21_spec_laws.specs.Taken.{names_among, section_names_among}
use Rattle.p21_spec_laws.specs.Waiting.{Reference}
use Rattle.p21_spec_exchange.specs.CanonicalText.{statement_text}
use Rattle.p21_spec_exchange.specs.DataSection.{Heading, named}
use Rattle.p21_spec_exchange.specs.Header.{IsFileSchema}
use Rattle.p21_spec_exchange.specs.Record.{Part, Record}
use Rattle.p21_spec_exchange.specs.Statement.{Statement, data_start, header, instance, section}
use Rattle.p21_spec_file.specs.BrokenRule.{Breaks}
use Rattle.p21_spec_file.specs.File.{HeadingNamesSchema}
use Rattle.p21_spec_file.specs.CanonicalTexts.{HaveCanonicalSize, IsInstanceText}
use Rattle.p21_spec_file.specs.Reference.{Serves}
use Rattle.p21_spec_schema.specs.Schema.{Schema}
use Rattle.p21_spec_schema.specs.SchemaName.{NamesSchema}

-- the canonical text of a statement: of an instance one that means the same
abbrev pub IsTextOf : Schema → Statement → List ℕ → Type 0
IsTextOf s (instance n record_) text = IsInstanceText s n record_ text
IsTextOf s other text = text ≡ statement_text other

-- the canonical lines of the statements have so many bytes, with an LF each
abbrev pub HasFileSize : Schema → List Statement → ℕ → Type 0
HasFileSize s given size = (kept : ℕ) × HaveCanonicalSize s given kept × (size ≡ kept + framing given)

-- Behind the statements given, whose canonical lines have so many bytes, this statement is refused with this number
pub data Offends (s : Schema) (limits : Limits) (given : List Statement) (size : ℕ) : Statement → ℕ → Type 0 where
  -- a schema text names another schema
  other_schema : (part : Part) (chars : List ℕ) → IsFileSchema part chars → ¬ NamesSchema chars s.name → Offends s limits given size (header part) 31
  section_of_other_schema : (heading : Heading) → ¬ HeadingNamesSchema s.name heading → Offends s limits given size (section (data_start heading)) 31
  -- a section has the name of one before it
  section_again : (name schema_text : List ℕ) → Contains (section_names_among given) name → Offends s limits given size (section (data_start (named name schema_text))) 33
  -- an instance has the name of one before it, in whatever section
  name_again : (n : ℕ) (record_ : Record) → Contains (names_among given) n → Offends s limits given size (instance n record_) 40
  -- a record breaks a rule
  broken : (n : ℕ) (record_ : Record) (number : ℕ) → Breaks s record_ number → Offends s limits given size (instance n record_) number
  -- its canonical line has more bytes than one may have, or one more than the canonical file may have comes with it
  long_line : (statement : Statement) (text : List ℕ) → IsTextOf s statement text → limits.record_canonical < length text → Offends s limits given size statement 27
  long_file : (statement : Statement) (text : List ℕ) → IsTextOf s statement text → limits.file_canonical < size + (length text + 1) → Offends s limits given size statement 27

-- At the end of a file of these instances, this reference is refused with this number
pub data IsUnserved (s : Schema) (entries : List Entry) : Reference → ℕ → Type 0 where
  -- no instance has the name
  unknown : (reference : Reference) → ¬ Contains (map (λ (e : Entry). e.name) entries) reference.1.target → IsUnserved s entries reference 56
  -- the one that has it doesn't serve
  unfit : (reference : Reference) (target : Entry) → Contains entries target → target.name ≡ reference.1.target → ¬ Serves s reference.1.wanted target.meaning.entities → IsUnserved s entries reference 57
