-- What is said of a statement that has ended, behind those that were given (this project's own).
use Rattle.std.specs.Prelude.{◌≡◌, ◌≢◌, ◌↔◌, ◌<◌, ◌^◌, ℕ, true, List, [], ◌∷◌, ◌++◌, Contains, length, Result, Ok, Err}
use Rattle.std.specs.BTreeSet.{Updates}
use Rattle.std.specs.List.{flat_map}
use Rattle.std.specs.Ordering.{nat_cmp}
use Rattle.p21_spec_basics.specs.Limits.{Limits}
use Rattle.p21_spec_exchange.specs.Record.{Record}
use Rattle.p21_spec_exchange.specs.Statement.{Statement, instance, statement_tokens}
use Rattle.p21_spec_exchange.specs.Structure.{AreFirstStatements, Structure}
use Rattle.p21_spec_file.specs.Reference.{Need}
use Rattle.p21_spec_laws.specs.Among.{parts_among}
use Rattle.p21_spec_laws.specs.Keeping.{Keeps}
use Rattle.p21_spec_laws.specs.Stored.{with_lines}
use Rattle.p21_spec_laws.specs.Taken.{headings_among, names_among}
use Rattle.p21_spec_schema.specs.Schema.{Schema}
use Rattle.p21_spec_survey.specs.Rules.{OffendsBy, Rules, by_itself, of_schema}
use Rattle.p21_spec_survey.specs.Survey.{IsRight}
use Rattle.p21_stream_kept.specs.Found.{HasFound}
use Rattle.p21_stream_sieve.specs.SieveSteps.{Lists}
use Rattle.p21_stream_sieve.specs.Sifting.{AreSifted, HaveNames, RefusesInstance}
use Rattle.p21_stream_sieve.specs.declared.sieve.Sieve.{Sieve}
use Rattle.p21_stream_statements.specs.Fault.{fault_number}
use Rattle.p21_stream_statements.specs.Source.{IsOfStatement}
use Rattle.p21_stream_statements.specs.declared.fault.Fault.{Fault}
use Rattle.p21_stream_statements.specs.declared.fault.Fault.TheVariants.{CanonicalTooLong, Check, Dangling, DuplicateName, Grammar}
use Rattle.p21_stream_statements.specs.declared.fault.Fault.TheVariants.{NoMemory, Read, SchemaName, SectionTwice, Token, Write}
use Rattle.p21_stream_statements.specs.declared.fault.Fault.TheVariants.{WrongTarget}
use Rattle.p21_stream_survey.specs.Sifted.{Sifted, alone, names_left, sieved, size_kept}
use Rattle.p21_stream_survey.specs.declared.judging.Judgement.{Judgement}
use Rattle.p21_stream_survey.specs.declared.judging.Judgement.TheVariants.{Right, Wrong}
use Rattle.p21_stream_syntax.specs.Given as own

-- of the statements given these are taken, and kept with their lines; the others are instances that are refused, and their names are known
pub record SiftsOfSchema (s : Schema) (limits : Limits) (given taken : List Statement) (sieve : Sieve) : Type 0 where
  pub sifted : AreSifted s given taken sieve.refusals.items
  pub keeps : Keeps s limits taken sieve.kept
  pub lines : sieve.kept.lines ≡ with_lines
  pub names : HaveNames sieve.names sieve.refusals.items

-- the same by themselves: the others are instances that have the name of one that is taken
pub record SiftsAlone (given taken : List Statement) (kept : own.Kept) : Type 0 where
  pub keeps : own.Keeps taken kept
  pub parts_are : parts_among given ≡ parts_among taken
  pub headings_are : headings_among given ≡ headings_among taken
  pub named : (n : ℕ) → Contains (names_among given) n ↔ Contains (names_among taken) n

abbrev pub SiftsTo : Rules → Limits → List Statement → List Statement → Sifted → Type 0
SiftsTo (of_schema s) limits given taken (sieved sieve) = SiftsOfSchema s limits given taken sieve
SiftsTo (of_schema s) limits given taken (alone kept names) = ⊥
SiftsTo by_itself limits given taken (sieved sieve) = ⊥
SiftsTo by_itself limits given taken (alone kept names) = SiftsAlone given taken kept

-- ---- what is asked for

-- The statement stands in a tree behind those given, and 64 bits count the tokens of all of them
pub record Follows (s : Rules) (limits : Limits) (sieve : Sifted) (statement : Statement) : Type 0 where
  pub given : List Statement
  pub taken : List Statement
  pub sifts : SiftsTo s limits given taken sieve
  pub structure : Structure
  pub are_first : AreFirstStatements (given ++ statement ∷ []) structure
  pub few : length (flat_map statement_tokens (given ++ statement ∷ [])) < 2 ^ 64

-- the same of what is kept of a schema
abbrev pub FollowsSieved : Schema → Limits → Sieve → Statement → Type 0
FollowsSieved s limits sieve statement = Follows (of_schema s) limits (sieved sieve) statement

-- an instance of this name stands there, and this is found of it
pub record FollowsFound (s : Schema) (limits : Limits) (sieve : Sieve) (n : ℕ) (entities : List ℕ) (needs : List Need)
    (text : List ℕ) : Type 0 where
  pub record_ : Record
  pub found : HasFound s n record_ entities needs text
  pub follows : FollowsSieved s limits sieve (instance n record_)

-- ---- what is said

-- behind the statements given an instance is refused by this fault; by itself its name stands among them
abbrev pub RefusesBy : Rules → List Statement → ℕ → Record → Fault → Type 0
RefusesBy (of_schema s) given n record_ fault = RefusesInstance s given n record_ fault
RefusesBy by_itself given n record_ fault = (fault ≡ DuplicateName) × Contains (names_among given) n

-- the statement is right behind those given, and it is taken
pub record Takes (s : Rules) (limits : Limits) (given taken : List Statement) (old : Sifted) (statement : Statement) (new : Sifted) : Type
    0 where
  pub sifts : SiftsTo s limits (given ++ statement ∷ []) (taken ++ statement ∷ []) new
  pub right : IsRight s given statement
  pub names : names_left new ≡ names_left old

-- the statement is an instance of this name, behind those given it is refused by this fault, and nothing has changed
pub record IsWrong (s : Rules) (limits : Limits) (old : Sifted) (statement : Statement) (n : ℕ) (fault : Fault) (new : Sifted) : Type
    0 where
  pub record_ : Record
  pub statement_is : statement ≡ instance n record_
  pub same : new ≡ old
  pub kind : IsOfStatement fault
  pub refused : (given taken : List Statement) → SiftsTo s limits given taken old → RefusesBy s given n record_ fault

-- behind the statements that are taken it is refused by this fault, an instance by its length alone
pub record IsEnd (s : Rules) (limits : Limits) (taken : List Statement) (old : Sifted) (statement : Statement) (fault : Fault) : Type
    0 where
  pub offends : OffendsBy s limits taken (size_kept old) statement (fault_number fault)
  pub by_length : (n : ℕ) (record_ : Record) → statement ≡ instance n record_ → fault_number fault ≡ 27

-- what is said of a statement, for all that were given before it
abbrev pub JudgeGives : Rules → Limits → Sifted → Statement → Result Judgement Fault → Sifted → Type 0
JudgeGives s limits old statement (Ok Right) new = (given taken : List Statement) → SiftsTo s limits given taken old
    → Takes s limits given taken old statement new
JudgeGives s limits old statement (Ok (Wrong n fault)) new = IsWrong s limits old statement n fault new
JudgeGives s limits old statement (Err fault) new = fault ≢ NoMemory → (given taken : List Statement) → SiftsTo s limits given taken old
    → IsEnd s limits taken old statement fault

-- the same of what is kept of a schema
abbrev pub JudgesSieved : Schema → Limits → Sieve → Statement → Result Judgement Fault → Sieve → Type 0
JudgesSieved s limits old statement result new = JudgeGives (of_schema s) limits (sieved old) statement result (sieved new)

-- the same of an instance, by what is found of it
abbrev pub FoundGives : Schema → Limits → Sieve → ℕ → List ℕ → List Need → List ℕ → Result Judgement Fault → Sieve → Type 0
FoundGives s limits old n entities needs text result new = (record_ : Record) → HasFound s n record_ entities needs text
    → JudgesSieved s limits old (instance n record_) result new

-- an instance that is refused is left out, and its name with those of the others
abbrev pub LeavesName : Sifted → ℕ → Fault → Sifted → Type 0
LeavesName (sieved old) n fault (sieved new) = Lists old n fault new
LeavesName (sieved old) n fault (alone kept names) = ⊥
LeavesName (alone kept names) n fault (sieved new) = ⊥
LeavesName (alone kept names) n fault (alone after more) = (after ≡ kept) × Updates nat_cmp names more n true

-- what is said of a statement, where what keeps the others keeps it or not
abbrev pub said_of : Result (Unit {0}) Fault → Result Judgement Fault
said_of (Ok done) = Ok Right
said_of (Err fault) = Err fault

-- of an instance that isn't kept: a fault of its record or its name is its own
abbrev pub wrong_or_end : ℕ → Fault → Result Judgement Fault
wrong_or_end n (Check fault) = Ok (Wrong n (Check fault))
wrong_or_end n DuplicateName = Ok (Wrong n DuplicateName)
wrong_or_end n (Token fault) = Err (Token fault)
wrong_or_end n (Grammar fault) = Err (Grammar fault)
wrong_or_end n SchemaName = Err SchemaName
wrong_or_end n SectionTwice = Err SectionTwice
wrong_or_end n CanonicalTooLong = Err CanonicalTooLong
wrong_or_end n Dangling = Err Dangling
wrong_or_end n WrongTarget = Err WrongTarget
wrong_or_end n NoMemory = Err NoMemory
wrong_or_end n Read = Err Read
wrong_or_end n Write = Err Write
