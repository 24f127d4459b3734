-- What is kept of the statements of a file that is read by itself, apart from how it is laid out in memory.
use Rattle.std.specs.Prelude.{◌≡◌, ◌≢◌, ◌⊎◌, ◌↔◌, ℕ, List, [], ◌∷◌, ◌++◌, Contains, length, nat_eq, Result, Ok, Err}
use Rattle.std.specs.List.{IsDistinct, AllByRecursion as Each}
use Rattle.std.specs.Str.{bytes_eq}
use Rattle.p21_grammar_tree.specs.View.{part_views}
use Rattle.p21_spec_basics.specs.Limits.{Limits}
use Rattle.p21_spec_exchange.specs.DataSection.{Heading, named, unnamed, section_names}
use Rattle.p21_spec_exchange.specs.Header.{IsFileSchema}
use Rattle.p21_spec_exchange.specs.Record.{Part, Record}
use Rattle.p21_spec_exchange.specs.Statement.{Statement, instance}
use Rattle.p21_spec_laws.specs.Among.{parts_among}
use Rattle.p21_spec_laws.specs.Taken.{AreStatementsTaken, headings_among, instances_among, names_among}
use Rattle.p21_spec_schema.specs.SchemaName.{NamesSchema}
use Rattle.p21_spec_survey.specs.Rules.{OffendsByItself}
use Rattle.p21_spec_syntax.specs.WellFormedFile.{BeginsIllFormed, BeginsWithName, names_of}
use Rattle.p21_stream_statements.specs.Fault.{fault_number}
use Rattle.p21_stream_statements.specs.declared.fault.Fault.{Fault}
use Rattle.p21_stream_statements.specs.declared.fault.Fault.TheVariants.{NoMemory, SchemaName}
use Rattle.p21_stream_store.specs.StoredInstance.{instance_names}
use Rattle.p21_stream_syntax.specs.Waiting.{Claim, claims_among, claims_in}
use Rattle.p21_stream_syntax.specs.declared.given.Given.{Given}
use Rattle.p21_syntax_words.specs.KeywordCounts.{AreCounts, keywords_of}

-- the header records; the name of the schema, empty in front of FILE_SCHEMA; how the data sections begin; the names of the
-- instances, in whatever order; the references that wait; and how many records of instances have which keyword
pub record Kept : Type 0 where
  pub header : List Part
  pub schema : List ℕ
  pub sections : List Heading
  pub names : List ℕ
  pub waiting : List Claim
  pub counts : List (List ℕ × ℕ)

-- nothing taken
abbrev pub nothing_kept : Kept
nothing_kept = record { header = []; schema = []; sections = []; names = []; waiting = []; counts = [] }

-- what the fields hold
abbrev pub kept_of : Given → Kept
kept_of given = record {
  header = part_views given.header.items;
  schema = given.schema.name.items;
  sections = given.sections;
  names =
      instance_names given.names;
  waiting = claims_in given.waiting.references.items;
  counts = given.keywords;
}

-- ---- what it says of the statements

-- each FILE_SCHEMA of these records begins with this name of a schema, which one has that isn't empty
pub record IsSchemaOf (parts : List Part) (schema : List ℕ) : Type 0 where
  pub each_names : (part : Part) (chars : List ℕ) → Contains parts part → IsFileSchema part chars
      → BeginsWithName chars × NamesSchema chars schema
  pub one_names : (schema ≡ []) ⊎ ((part : Part) × (chars : List ℕ) × Contains parts part × IsFileSchema part chars
      × NamesSchema chars schema)

-- a section with a name stands behind the FILE_SCHEMA, and names its schema
abbrev pub IsOfSchema : List ℕ → Heading → Type 0
IsOfSchema schema unnamed = Unit {0}
IsOfSchema schema (named name text) = (schema ≢ []) × NamesSchema text schema

-- so does each of them, and no two have one name
pub record AreSections (schema : List ℕ) (sections : List Heading) : Type 0 where
  pub of_schema : Each (IsOfSchema schema) sections
  pub names_differ : IsDistinct bytes_eq (section_names sections)

-- These are the names of the instances, which differ, and the references that wait: other ones are to names of instances
pub record AreInstances (instances : List (ℕ × Record)) (names : List ℕ) (waiting : List Claim) : Type 0 where
  pub names_are : (n : ℕ) → Contains names n ↔ Contains (names_of instances) n
  pub as_many : length names ≡ length instances
  pub names_differ : IsDistinct nat_eq (names_of instances)
  pub are_references : Each (Contains (claims_among instances)) waiting
  pub others_given : Each (λ (c : Claim). Contains waiting c ⊎ Contains (names_of instances) c.1) (claims_among instances)

-- this is kept of the statements given, none of which was refused
pub record Keeps (given : List Statement) (kept : Kept) : Type 0 where
  pub header_is : kept.header ≡ parts_among given
  pub schema : IsSchemaOf (parts_among given) kept.schema
  pub sections_are : kept.sections ≡ headings_among given
  pub sections : AreSections kept.schema (headings_among given)
  pub instances : AreInstances (instances_among given) kept.names kept.waiting
  pub keywords : AreCounts (keywords_of (instances_among given)) kept.counts

-- ---- what each statement gives

-- no well-formed file begins with these statements and that one
abbrev pub BeginNone : List Statement → Statement → Type 0
BeginNone given statement = (limits : Limits) (bytes : List ℕ) → AreStatementsTaken bytes (given ++ statement ∷ [])
    → BeginsIllFormed limits bytes

-- for all statements of which this is kept: the statement is kept too, or no well-formed file begins so
abbrev pub Takes : Kept → Statement → Result (Unit {0}) Fault → Kept → Type 0
Takes old statement (Ok done) new = (given : List Statement) → Keeps given old → Keeps (given ++ statement ∷ []) new
Takes old statement (Err fault) new = fault ≢ NoMemory → (given : List Statement) → Keeps given old → BeginNone given statement

-- Behind the statements given this one is refused with this number: an instance for its name, and another one as the standard says
abbrev pub OffendsAlone : List Statement → Statement → ℕ → Type 0
OffendsAlone given (instance n record_) number = (number ≡ 40) × Contains (names_among given) n
OffendsAlone given other number = OffendsByItself given other number

-- for all statements of which this is kept: why the statement is refused, want of memory apart
abbrev pub Refuses : Kept → Statement → Result (Unit {0}) Fault → Type 0
Refuses old statement (Ok done) = Unit {0}
Refuses old statement (Err fault) = fault ≢ NoMemory → (given : List Statement) → Keeps given old
    → OffendsAlone given statement (fault_number fault)

-- a FILE_SCHEMA is refused for its text alone, or for want of memory
abbrev pub IsOfSchemaText : Fault → Type 0
IsOfSchemaText NoMemory = Unit {0}
IsOfSchemaText SchemaName = Unit {0}
IsOfSchemaText other = ⊥

-- the text of a FILE_SCHEMA gives the name of the schema, or has to name the same; it is refused where it begins with no name, or
-- names another
abbrev pub TakesSchema : List ℕ → List ℕ → Result (Unit {0}) Fault → List ℕ → Type 0
TakesSchema old chars (Ok done) new = BeginsWithName chars × NamesSchema chars new × ((old ≡ []) ⊎ (new ≡ old))
TakesSchema old chars (Err fault) new = fault ≢ NoMemory → (¬ BeginsWithName chars) ⊎ ((old ≢ []) × ¬ NamesSchema chars old)

-- and a header record gives it where it is a FILE_SCHEMA
abbrev pub TakesPart : List ℕ → Part → Result (Unit {0}) Fault → List ℕ → Type 0
TakesPart old part (Ok done) new = ((chars : List ℕ) × IsFileSchema part chars × TakesSchema old chars (Ok done) new)
    ⊎ (((chars : List ℕ) → IsFileSchema part chars → ⊥) × (new ≡ old))
TakesPart old part (Err fault) new = (chars : List ℕ) × IsFileSchema part chars × TakesSchema old chars (Err fault) new
