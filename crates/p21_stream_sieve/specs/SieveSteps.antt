-- What each statement does to a sieve.
use Rattle.std.specs.Prelude.{◌≡◌, ◌≢◌, ◌+◌, ◌≤◌, ◌<◌, ◌^◌, ◌⊎◌, ℕ, List, [], ◌∷◌, ◌++◌, length, map, Contains, Result, Ok, Err}
use Rattle.std.specs.List.{flat_map}
use Rattle.p21_spec_basics.specs.Limits.{Limits}
use Rattle.p21_spec_laws.specs.Keeping.{Keeps}
use Rattle.p21_spec_laws.specs.Offending.{Offends}
use Rattle.p21_spec_laws.specs.Stored.{StoredEntry}
use Rattle.p21_spec_exchange.specs.Record.{Record}
use Rattle.p21_spec_exchange.specs.Statement.{Statement, instance, statement_tokens}
use Rattle.p21_spec_exchange.specs.Structure.{AreFirstStatements, Structure}
use Rattle.p21_spec_file.specs.BrokenRule.{Breaks}
use Rattle.p21_spec_file.specs.Reference.{Need}
use Rattle.p21_spec_schema.specs.Schema.{Schema}
use Rattle.p21_stream_kept.specs.Found.{HasFound}
use Rattle.p21_stream_statements.specs.Fault.{fault_number}
use Rattle.p21_stream_statements.specs.declared.fault.Fault.{Fault}
use Rattle.p21_stream_statements.specs.declared.fault.Fault.TheVariants.{NoMemory}
use Rattle.p21_stream_statements.specs.declared.refusal.Refusal.{Refusal}
use Rattle.p21_stream_sieve.specs.Sifting.{AreSifted, HasName, HaveNames, IsOfInstance, Sifts, at_instance}
use Rattle.p21_stream_sieve.specs.declared.sieve.Sieve.{Sieve}

-- The statement stands in a tree behind those that the sieve has taken, and 64 bits count the tokens of all of them
pub record Follows (s : Schema) (limits : Limits) (sieve : Sieve) (statement : Statement) : Type 0 where
  pub given : List Statement
  pub sifts : Sifts s limits given sieve
  pub structure : Structure
  pub are_first : AreFirstStatements (given ++ statement ∷ []) structure
  pub few : length (flat_map statement_tokens (given ++ statement ∷ [])) < 2 ^ 64

-- An instance of this name stands there, and this is found of it
pub record FollowsFound (s : Schema) (limits : Limits) (sieve : Sieve) (n : ℕ) (entities : List ℕ) (needs : List Need)
    (text : List ℕ) : Type 0 where
  pub record_ : Record
  pub found : HasFound s n record_ entities needs text
  pub follows : Follows s limits sieve (instance n record_)

-- behind the statements that passed, the statement is refused by this fault
pub record Ends (s : Schema) (limits : Limits) (given : List Statement) (sieve : Sieve) (statement : Statement) (fault : Fault) : Type
    0 where
  pub passed : List Statement
  pub sifted : AreSifted s given passed sieve.refusals.items
  pub keeps : Keeps s limits passed sieve.kept
  pub offends : Offends s limits passed (sieve.kept.bytes + sieve.kept.framing) statement (fault_number fault)

-- what a statement gives, for all statements that the sieve has taken: it is kept or listed; or it ends the reading, and
-- nothing is listed
abbrev pub StepGives : Schema → Limits → Sieve → Statement → Result (Unit {0}) Fault → Sieve → Type 0
StepGives s limits old statement (Ok done) new = (given : List Statement) → Sifts s limits given old
    → Sifts s limits (given ++ statement ∷ []) new
StepGives s limits old statement (Err fault) new = fault ≢ NoMemory
    → (new.refusals.items ≡ old.refusals.items) × ((given : List Statement) → Sifts s limits given old
    → Ends s limits given old statement fault)

-- the same of an instance, by what is found of it
abbrev pub FoundGives : Schema → Limits → Sieve → ℕ → List ℕ → List Need → List ℕ → Result (Unit {0}) Fault → Sieve → Type 0
FoundGives s limits old n entities needs text result new = (record_ : Record) → HasFound s n record_ entities needs text
    → StepGives s limits old (instance n record_) result new

-- ---- instances that are refused before they are asked for

-- an instance of this name has come: it was refused, or it is kept
abbrev pub HasCome : Sieve → ℕ → Type 0
HasCome sieve n = HasName sieve.names n ⊎ Contains (map (λ (x : StoredEntry). x.name) sieve.kept.stored) n

-- The statement is an instance whose name none has before it, and its record breaks the rule of the fault's number; want of memory says
-- nothing of it
pub record IsRefusedAlone (s : Schema) (sieve : Sieve) (statement : Statement) (n : ℕ) (fault : Fault) : Type 0 where
  pub record_ : Record
  pub statement_is : statement ≡ instance n record_
  pub first : ¬ HasCome sieve n
  pub breaks : fault ≢ NoMemory → Breaks s record_ (fault_number fault)

-- ---- lists

-- the refusal of an instance is listed, and its name with it
pub record Lists (old : Sieve) (n : ℕ) (fault : Fault) (new : Sieve) : Type 0 where
  pub kept_is : new.kept ≡ old.kept
  pub refusals_are : new.refusals.items ≡ old.refusals.items ++ at_instance fault n ∷ []
  pub names : HaveNames old.names old.refusals.items → HaveNames new.names new.refusals.items

-- a fault of a record or of a name is listed, and any other one is handed on
abbrev pub ListsOrEnds : Sieve → ℕ → Fault → Result (Unit {0}) Fault → Sieve → Type 0
ListsOrEnds old n fault (Ok done) new = Lists old n fault new × IsOfInstance fault
ListsOrEnds old n fault (Err other) new = (other ≡ NoMemory) ⊎ ((other ≡ fault) × (new ≡ old))

-- one refusal is listed at most, and none where a fault ends the reading
abbrev pub ListsOne : List Refusal → Result (Unit {0}) Fault → List Refusal → Type 0
ListsOne old (Ok done) new = length new ≤ length old + 1
ListsOne old (Err fault) new = fault ≢ NoMemory → new ≡ old
