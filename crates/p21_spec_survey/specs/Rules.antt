-- By what rules a survey of a file refuses what stands in it: by those of a schema, or by what the standard says of a file by itself (this
-- project's own numbers, on exchange structures of ISO 10303-21).
--
-- By a schema all is refused that a session refuses. By itself a record is refused for its name alone, whatever its keyword and its
-- parameters are, and a reference where no instance has its name. A FILE_SCHEMA has to begin with a name, and to name the schema of each
-- one before it, which each section with a name names too. Nothing is asked of the lengths of canonical lines.
use Rattle.std.specs.Prelude.{◌≡◌, ℕ, List, map, Contains}
use Rattle.p21_spec_basics.specs.Limits.{Limits}
use Rattle.p21_spec_exchange.specs.DataSection.{Heading, named, unnamed}
use Rattle.p21_spec_exchange.specs.Header.{IsFileSchema}
use Rattle.p21_spec_exchange.specs.Record.{Part, Record}
use Rattle.p21_spec_exchange.specs.Statement.{Statement, data_start, header, section}
use Rattle.p21_spec_exchange.specs.Structure.{Structure}
use Rattle.p21_spec_file.specs.Accepted.{IsAccepted}
use Rattle.p21_spec_file.specs.BrokenRule.{Breaks}
use Rattle.p21_spec_file.specs.File.{HeadingNamesSchema}
use Rattle.p21_spec_file.specs.Meaning.{RecordMeans, Typed}
use Rattle.p21_spec_file.specs.Reference.{EntitySets, IsServed, Need, record_references}
use Rattle.p21_spec_laws.specs.CompleteFile.{Entry, IsMeant, entity_sets_in}
use Rattle.p21_spec_laws.specs.DeadLaws.{MeansNothing}
use Rattle.p21_spec_laws.specs.Offending.{HasFileSize, IsUnserved, Offends}
use Rattle.p21_spec_laws.specs.Taken.{section_names_among}
use Rattle.p21_spec_laws.specs.Waiting.{Reference}
use Rattle.p21_spec_schema.specs.Schema.{Schema}
use Rattle.p21_spec_schema.specs.SchemaName.{NamesSchema}
use Rattle.p21_spec_schema.specs.WellFormed.{IsWellFormed}
use Rattle.p21_spec_syntax.specs.WellFormedFile.{BeginsWithName, IsWellFormedFile}

pub data Rules : Type 0 where
  of_schema : Schema → Rules
  by_itself : Rules

-- the schema is a possible one; by itself nothing is asked
abbrev pub AreWellFormed : Rules → Type 0
AreWellFormed (of_schema s) = IsWellFormed s
AreWellFormed by_itself = Unit {0}

-- a file of which nothing is refused
abbrev pub IsRightFile : Rules → Limits → List ℕ → Type 0
IsRightFile (of_schema s) limits file = IsAccepted s limits file
IsRightFile by_itself limits file = (structure : Structure) × (schema : List ℕ) × IsWellFormedFile limits file structure schema

-- ---- records

-- a record means something among some others; by itself each one is right
abbrev pub HasMeaning : Rules → Record → Type 0
HasMeaning (of_schema s) record_ = (kinds : EntitySets) × (meaning : Typed) × RecordMeans s kinds record_ meaning
HasMeaning by_itself record_ = Unit {0}

-- it means nothing; by itself none is refused
abbrev pub HasNoMeaning : Rules → Record → Type 0
HasNoMeaning (of_schema s) record_ = MeansNothing s record_
HasNoMeaning by_itself record_ = ⊥

-- it breaks the rule of this number
abbrev pub BreaksRule : Rules → Record → ℕ → Type 0
BreaksRule (of_schema s) record_ number = Breaks s record_ number
BreaksRule by_itself record_ number = ⊥

-- ---- the header, and how data sections begin

-- a FILE_SCHEMA among the statements names this schema
abbrev pub NameSchema : List Statement → List ℕ → Type 0
NameSchema given schema = (part : Part) × (chars : List ℕ) × Contains given (header part) × IsFileSchema part chars
    × NamesSchema chars schema

-- behind the statements given a FILE_SCHEMA with this text is right
abbrev pub IsSchemaText : Rules → List Statement → List ℕ → Type 0
IsSchemaText (of_schema s) given chars = NamesSchema chars s.name
IsSchemaText by_itself given chars = BeginsWithName chars × ((schema : List ℕ) → NameSchema given schema → NamesSchema chars schema)

-- a section with a name names a schema that one of the statements names
abbrev pub NamesSchemaOf : List Statement → Heading → Type 0
NamesSchemaOf given unnamed = Unit {0}
NamesSchemaOf given (named name text) = (schema : List ℕ) × NameSchema given schema × NamesSchema text schema

-- behind them a data section is of the schema, names of sections apart
abbrev pub IsOfSchema : Rules → List Statement → Heading → Type 0
IsOfSchema (of_schema s) given heading = HeadingNamesSchema s.name heading
IsOfSchema by_itself given heading = NamesSchemaOf given heading

-- Behind the statements given this one is refused with this number, by itself
pub data OffendsByItself (given : List Statement) : Statement → ℕ → Type 0 where
  -- a FILE_SCHEMA begins with no name, or names another schema than one before it
  no_name : (part : Part) (chars : List ℕ) → IsFileSchema part chars → ¬ BeginsWithName chars → OffendsByItself given (header part) 31
  other_schema : (part : Part) (chars schema : List ℕ) → IsFileSchema part chars → NameSchema given schema → ¬ NamesSchema chars schema
      → OffendsByItself given (header part) 31
  -- a section names another schema than a FILE_SCHEMA before it, or none stands before it
  section_of_other_schema : (heading : Heading) (schema : List ℕ) → NameSchema given schema → ¬ HeadingNamesSchema schema heading
      → OffendsByItself given (section (data_start heading)) 31
  early_section : (heading : Heading) → ((part : Part) (chars : List ℕ) → Contains given (header part) → ¬ IsFileSchema part chars)
      → OffendsByItself given (section (data_start heading)) 31
  -- a section has the name of one before it
  section_again : (name schema_text : List ℕ) → Contains (section_names_among given) name
      → OffendsByItself given (section (data_start (named name schema_text))) 33

-- how many bytes the canonical lines of the statements have; by itself that counts for nothing
abbrev pub HasSize : Rules → List Statement → ℕ → Type 0
HasSize (of_schema s) given size = HasFileSize s given size
HasSize by_itself given size = Unit {0}

-- behind the statements given, whose canonical lines have so many bytes, this one is refused with this number
abbrev pub OffendsBy : Rules → Limits → List Statement → ℕ → Statement → ℕ → Type 0
OffendsBy (of_schema s) limits given size statement number = Offends s limits given size statement number
OffendsBy by_itself limits given size statement number = OffendsByItself given statement number

-- ---- references

-- What is found of an instance is right. By itself its needs are the instance names in its parameters, and of a need only the name counts
abbrev pub IsMeantBy : Rules → Entry → Type 0
IsMeantBy (of_schema s) entry = IsMeant s entry
IsMeantBy by_itself entry = map (λ (need : Need). need.target) entry.needs ≡ record_references entry.record_

abbrev pub names_in : List Entry → List ℕ
names_in entries = map (λ (e : Entry). e.name) entries

-- a need is served among the instances of a file; by itself one has the name
abbrev pub IsServedIn : Rules → List Entry → Need → Type 0
IsServedIn (of_schema s) entries need = IsServed s (entity_sets_in entries) need
IsServedIn by_itself entries need = Contains (names_in entries) need.target

-- a reference is refused with this number there; by itself none has the name
abbrev pub IsUnservedIn : Rules → List Entry → Reference → ℕ → Type 0
IsUnservedIn (of_schema s) entries reference number = IsUnserved s entries reference number
IsUnservedIn by_itself entries reference number = (number ≡ 56) × ¬ Contains (names_in entries) reference.1.target
