-- The laws of files by themselves: bytes are one well-formed file at most, what a schema accepts is one, and why bytes are none
-- or begin none.
use Rattle.std.specs.Prelude.{◌≡◌, ℕ, List, [], ◌∷◌, ◌++◌, Contains}
use Rattle.std.specs.List.{AllByRecursion as Each}
use Rattle.p21_spec_basics.specs.Digits.{IsByte}
use Rattle.p21_spec_basics.specs.Limits.{Limits}
use Rattle.p21_spec_exchange.specs.DataSection.{Heading, named}
use Rattle.p21_spec_exchange.specs.Header.{IsFileSchema}
use Rattle.p21_spec_exchange.specs.Laying.{Laid}
use Rattle.p21_spec_exchange.specs.Record.{Part, Record}
use Rattle.p21_spec_exchange.specs.Statement.{Statement, data_start, header, instance, section}
use Rattle.p21_spec_exchange.specs.Structure.{Structure, statements, tokens_of}
use Rattle.p21_spec_file.specs.Accepted.{IsAccepted, IsDead, Means}
use Rattle.p21_spec_file.specs.File.{FileMeaning, HeadingNamesSchema}
use Rattle.p21_spec_laws.specs.Taken.{AreStatementsTaken, instances_among, names_among, section_names_among}
use Rattle.p21_spec_schema.specs.Schema.{Schema}
use Rattle.p21_spec_schema.specs.SchemaName.{NamesSchema}
use Rattle.p21_spec_schema.specs.WellFormed.{IsWellFormed}
use Rattle.p21_spec_syntax.specs.FileWithin.{BeginsNoFile, IsNoFile}
use Rattle.p21_spec_syntax.specs.WellFormedFile.{BeginsIllFormed, BeginsWithName, IsIllFormed, IsWellFormedFile, references_of}

-- ---- one reading

-- bytes are one well-formed file at most, which names one schema, within whatever limits
abbrev pub OneWellFormedFile : Type 0
OneWellFormedFile = (limits others : Limits) (bytes : List ℕ) (structure other : Structure) (schema other_schema : List ℕ) → IsWellFormedFile limits bytes structure schema → IsWellFormedFile others bytes other other_schema → (structure ≡ other) × (schema ≡ other_schema)

-- what a schema accepts is a well-formed file with the same tree, which names that schema; a letter begins the name of each schema
-- that a text declares
abbrev pub MeaningfulIsWellFormed : Type 0
MeaningfulIsWellFormed = (s : Schema) → IsWellFormed s → BeginsWithName s.name → (limits : Limits) (bytes : List ℕ) (meaning : FileMeaning) (means : Means s limits bytes meaning) → IsWellFormedFile limits bytes means.reads.structure s.name

-- ---- no tree

-- what begins no tree within the limits begins nothing that a schema accepts, and what is none is not accepted
abbrev pub NoFileIsDead : Type 0
NoFileIsDead = (s : Schema) (limits : Limits) (bytes : List ℕ) → BeginsNoFile limits bytes → IsDead s limits bytes

abbrev pub NoFileIsRefused : Type 0
NoFileIsRefused = (s : Schema) (limits : Limits) (bytes : List ℕ) → IsNoFile bytes → ¬ IsAccepted s limits bytes

-- nor a well-formed file
abbrev pub NoFileBeginsIllFormed : Type 0
NoFileBeginsIllFormed = (limits : Limits) (bytes : List ℕ) → BeginsNoFile limits bytes → BeginsIllFormed limits bytes

abbrev pub NoFileIsIllFormed : Type 0
NoFileIsIllFormed = (limits : Limits) (bytes : List ℕ) → IsNoFile bytes → IsIllFormed limits bytes

-- what begins none begins none when bytes come
abbrev pub IllFormedStays : Type 0
IllFormedStays = (limits : Limits) (bytes more : List ℕ) → Each IsByte more → BeginsIllFormed limits bytes → BeginsIllFormed limits (bytes ++ more)

-- ---- statements

-- a FILE_SCHEMA whose text begins with no name
abbrev pub NoNameIsIllFormed : Type 0
NoNameIsIllFormed = (limits : Limits) (bytes : List ℕ) (taken : List Statement) → AreStatementsTaken bytes taken → (part : Part) (chars : List ℕ) → Contains taken (header part) → IsFileSchema part chars → ¬ BeginsWithName chars → BeginsIllFormed limits bytes

-- a FILE_SCHEMA that names another schema than one before it
abbrev pub OtherNameIsIllFormed : Type 0
OtherNameIsIllFormed = (limits : Limits) (bytes : List ℕ) (taken : List Statement) → AreStatementsTaken bytes taken → (part other : Part) (chars others name : List ℕ) → Contains taken (header part) → IsFileSchema part chars → NamesSchema chars name
    → Contains taken (header other) → IsFileSchema other others → ¬ NamesSchema others name → BeginsIllFormed limits bytes

-- a data section whose schema text names another schema than FILE_SCHEMA
abbrev pub OtherSectionIsIllFormed : Type 0
OtherSectionIsIllFormed = (limits : Limits) (bytes : List ℕ) (taken : List Statement) → AreStatementsTaken bytes taken → (part : Part) (chars name : List ℕ) → Contains taken (header part) → IsFileSchema part chars → NamesSchema chars name
    → (heading : Heading) → Contains taken (section (data_start heading)) → ¬ HeadingNamesSchema name heading → BeginsIllFormed limits bytes

-- a data section in front of which no FILE_SCHEMA stands
abbrev pub EarlySectionIsIllFormed : Type 0
EarlySectionIsIllFormed = (limits : Limits) (bytes : List ℕ) (taken : List Statement) (heading : Heading) → AreStatementsTaken bytes (taken ++ section (data_start heading) ∷ []) → ((part : Part) (chars : List ℕ) → Contains taken (header part) → ¬ IsFileSchema part chars) → BeginsIllFormed limits bytes

-- a data section under a name that stands before it
abbrev pub RepeatedSectionIsIllFormed : Type 0
RepeatedSectionIsIllFormed = (limits : Limits) (bytes : List ℕ) (taken : List Statement) (name schema_text : List ℕ) → AreStatementsTaken bytes (taken ++ section (data_start (named name schema_text)) ∷ []) → Contains (section_names_among taken) name → BeginsIllFormed limits bytes

-- an instance under a name that stands before it, in whatever section
abbrev pub RepeatedNameIsIllFormed : Type 0
RepeatedNameIsIllFormed = (limits : Limits) (bytes : List ℕ) (taken : List Statement) (n : ℕ) (record_ : Record) → AreStatementsTaken bytes (taken ++ instance n record_ ∷ []) → Contains (names_among taken) n → BeginsIllFormed limits bytes

-- ---- at the end

-- a reference to a name that no instance has
abbrev pub MissingTargetIsIllFormed : Type 0
MissingTargetIsIllFormed = (limits : Limits) (bytes : List ℕ) (structure : Structure) (given : List Statement) → statements structure ≡ given → Laid bytes (tokens_of structure) → (n : ℕ) → Contains (references_of (instances_among given)) n → ¬ Contains (names_among given) n → IsIllFormed limits bytes
