-- The laws by which bytes are dead for what stands in the statements that they end, one for each reason.
use Rattle.std.specs.Prelude.{ℕ, List, [], ◌∷◌, ◌++◌, Contains, nat_eq}
use Rattle.std.specs.List.{IsDistinct}
use Rattle.std.specs.Str.{bytes_eq}
use Rattle.p21_spec_basics.specs.Limits.{Limits}
use Rattle.p21_spec_laws.specs.Taken.{AreStatementsTaken, names_among, section_names_among}
use Rattle.p21_spec_schema.specs.WellFormed.{IsWellFormed}
use Rattle.p21_spec_laws.specs.Needs.{MeansWithNeeds}
use Rattle.p21_spec_exchange.specs.DataSection.{Heading, named}
use Rattle.p21_spec_exchange.specs.Header.{IsFileSchema}
use Rattle.p21_spec_exchange.specs.Record.{Part, Record}
use Rattle.p21_spec_exchange.specs.Statement.{Statement, section, header, instance, data_start}
use Rattle.p21_spec_file.specs.Accepted.{IsDead}
use Rattle.p21_spec_file.specs.BrokenRule.{Breaks}
use Rattle.p21_spec_file.specs.File.{HeadingNamesSchema}
use Rattle.p21_spec_file.specs.Meaning.{RecordMeans, Typed}
use Rattle.p21_spec_file.specs.Reference.{EntitySets, Need, Serves}
use Rattle.p21_spec_schema.specs.Schema.{Schema}
use Rattle.p21_spec_schema.specs.SchemaName.{NamesSchema}

-- ---- schema texts

-- a FILE_SCHEMA whose text names another schema
abbrev pub OtherSchemaIsDead : Type 0
OtherSchemaIsDead = (s : Schema) (limits : Limits) (bytes : List ℕ) (taken : List Statement) → AreStatementsTaken bytes taken → (part : Part) (chars : List ℕ) → Contains taken (header part) → IsFileSchema part chars → ¬ NamesSchema chars s.name → IsDead s limits bytes

-- a data section whose schema text names another schema
abbrev pub SectionOfOtherSchemaIsDead : Type 0
SectionOfOtherSchemaIsDead = (s : Schema) (limits : Limits) (bytes : List ℕ) (taken : List Statement) → AreStatementsTaken bytes taken → (heading : Heading) → Contains taken (section (data_start heading)) → ¬ HeadingNamesSchema s.name heading → IsDead s limits bytes

-- ---- names

-- a data section under a name that stands before it
abbrev pub RepeatedSectionNameIsDead : Type 0
RepeatedSectionNameIsDead = (s : Schema) (limits : Limits) (bytes : List ℕ) (taken : List Statement) (name schema_text : List ℕ) → AreStatementsTaken bytes (taken ++ (section (data_start (named name schema_text)) ∷ [])) → Contains (section_names_among taken) name → IsDead s limits bytes

-- names of sections that do not all differ
abbrev pub EqualSectionNamesAreDead : Type 0
EqualSectionNamesAreDead = (s : Schema) (limits : Limits) (bytes : List ℕ) (taken : List Statement) → AreStatementsTaken bytes taken → ¬ IsDistinct bytes_eq (section_names_among taken) → IsDead s limits bytes

-- an instance under a name that stands before it, in whatever section
abbrev pub RepeatedNameIsDead : Type 0
RepeatedNameIsDead = (s : Schema) (limits : Limits) (bytes : List ℕ) (taken : List Statement) (n : ℕ) (record_ : Record) → AreStatementsTaken bytes (taken ++ (instance n record_ ∷ [])) → Contains (names_among taken) n → IsDead s limits bytes

-- instance names that do not all differ
abbrev pub EqualNamesAreDead : Type 0
EqualNamesAreDead = (s : Schema) (limits : Limits) (bytes : List ℕ) (taken : List Statement) → AreStatementsTaken bytes taken → ¬ IsDistinct nat_eq (names_among taken) → IsDead s limits bytes

-- ---- records

-- the record means nothing, whatever the other instances are
abbrev pub MeansNothing : Schema → Record → Type 0
MeansNothing s record_ = (kinds : EntitySets) (meaning : Typed) → ¬ RecordMeans s kinds record_ meaning

-- an instance whose record means nothing
abbrev pub NoMeaningIsDead : Type 0
NoMeaningIsDead = (s : Schema) (limits : Limits) (bytes : List ℕ) (taken : List Statement) → AreStatementsTaken bytes taken → (n : ℕ) (record_ : Record) → Contains taken (instance n record_) → MeansNothing s record_ → IsDead s limits bytes

-- an instance whose record breaks the rule of a number
abbrev pub BrokenRuleIsDead : Type 0
BrokenRuleIsDead = (s : Schema) → IsWellFormed s → (limits : Limits) (bytes : List ℕ) (taken : List Statement) → AreStatementsTaken bytes taken → (n : ℕ) (record_ : Record) (number : ℕ) → Contains taken (instance n record_) → Breaks s record_ number → IsDead s limits bytes

-- a reference to an instance that has come and doesn't serve
abbrev pub UnfitReferenceIsDead : Type 0
UnfitReferenceIsDead = (s : Schema) → IsWellFormed s → (limits : Limits) (bytes : List ℕ) (taken : List Statement) → AreStatementsTaken bytes taken
    → (n : ℕ) (record_ : Record) (meaning : Typed) (needs : List Need) (need : Need) → Contains taken (instance n record_) → MeansWithNeeds s record_ meaning needs → Contains needs need
    → (target : Record) (kinds : EntitySets) (target_meaning : Typed) → Contains taken (instance need.target target) → RecordMeans s kinds target target_meaning → ¬ Serves s need.wanted target_meaning.entities → IsDead s limits bytes
