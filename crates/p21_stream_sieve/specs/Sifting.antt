-- Statements of which some instances are refused: what is kept of the others, and the refusals (this project's own).
use Rattle.std.specs.Prelude.{◌≡◌, ◌↔◌, ℕ, List, [], ◌∷◌, ◌++◌, Contains, IsTrue}
use Rattle.std.specs.BTreeSet.{BTreeSet, contains}
use Rattle.std.specs.Ordering.{nat_cmp}
use Rattle.p21_spec_basics.specs.Limits.{Limits}
use Rattle.p21_spec_laws.specs.Stored.{with_lines}
use Rattle.p21_spec_laws.specs.DeadLaws.{MeansNothing}
use Rattle.p21_spec_laws.specs.Taken.{names_among}
use Rattle.p21_spec_laws.specs.Keeping.{Keeps}
use Rattle.p21_spec_exchange.specs.Record.{Record}
use Rattle.p21_spec_exchange.specs.Statement.{Statement, instance}
use Rattle.p21_spec_file.specs.BrokenRule.{Breaks}
use Rattle.p21_spec_schema.specs.Schema.{Schema}
use Rattle.p21_stream_statements.specs.Fault.{fault_number}
use Rattle.p21_stream_statements.specs.declared.fault.Fault.{Fault}
use Rattle.p21_stream_statements.specs.declared.fault.Fault.TheVariants.{Token, Grammar, Check, SchemaName, SectionTwice, DuplicateName, CanonicalTooLong, Dangling, WrongTarget, NoMemory, Read, Write}
use Rattle.p21_stream_statements.specs.declared.refusal.At.TheVariants.{Instance}
use Rattle.p21_stream_statements.specs.declared.refusal.Refusal.{Refusal}
use Rattle.p21_stream_sieve.specs.declared.sieve.Sieve.{Sieve}

-- a refusal that names the instance
abbrev pub at_instance : Fault → ℕ → Refusal
at_instance fault n = record { fault = fault; at = Instance n }

-- one of the refusals names the instance
abbrev pub HasRefusal : List Refusal → ℕ → Type 0
HasRefusal refusals n = (fault : Fault) × Contains refusals (at_instance fault n)

-- the fault is one of a record or of a name
abbrev pub IsOfInstance : Fault → Type 0
IsOfInstance (Check fault) = Unit {0}
IsOfInstance DuplicateName = Unit {0}
IsOfInstance (Token fault) = ⊥
IsOfInstance (Grammar fault) = ⊥
IsOfInstance SchemaName = ⊥
IsOfInstance SectionTwice = ⊥
IsOfInstance CanonicalTooLong = ⊥
IsOfInstance Dangling = ⊥
IsOfInstance WrongTarget = ⊥
IsOfInstance NoMemory = ⊥
IsOfInstance Read = ⊥
IsOfInstance Write = ⊥

-- Behind the statements given an instance is refused by this fault: its record means nothing, whatever the other instances
-- are, and breaks the rule of the fault's number; or an instance among those statements has its name
pub data RefusesInstance (s : Schema) (given : List Statement) (n : ℕ) (record_ : Record) : Fault → Type 0 where
  broken : (fault : Fault) → IsOfInstance fault → MeansNothing s record_ → Breaks s record_ (fault_number fault)
      → RefusesInstance s given n record_ fault
  name_again : Contains (names_among given) n → RefusesInstance s given n record_ DuplicateName

-- The statements given, in their order; those of them that pass; and the refusals of the others, which are instances, in
-- the same order
pub data AreSifted (s : Schema) : List Statement → List Statement → List Refusal → Type 0 where
  none : AreSifted s [] [] []
  passes : (given passed : List Statement) (refusals : List Refusal) (statement : Statement) → AreSifted s given passed refusals
      → AreSifted s (given ++ statement ∷ []) (passed ++ statement ∷ []) refusals
  refuses : (given passed : List Statement) (refusals : List Refusal) (n : ℕ) (record_ : Record) (fault : Fault)
      → AreSifted s given passed refusals → RefusesInstance s given n record_ fault
      → AreSifted s (given ++ instance n record_ ∷ []) passed (refusals ++ at_instance fault n ∷ [])

-- whether the set has the name
abbrev pub HasName : BTreeSet ℕ → ℕ → Type 0
HasName names n = IsTrue (contains nat_cmp names n)

-- the set has the names of the instances that were refused, and no others
abbrev pub HaveNames : BTreeSet ℕ → List Refusal → Type 0
HaveNames names refusals = (n : ℕ) → HasName names n ↔ HasRefusal refusals n

-- the sieve has kept and listed the statements given, with their lines
pub record Sifts (s : Schema) (limits : Limits) (given : List Statement) (sieve : Sieve) : Type 0 where
  pub passed : List Statement
  pub sifted : AreSifted s given passed sieve.refusals.items
  pub keeps : Keeps s limits passed sieve.kept
  pub lines : sieve.kept.lines ≡ with_lines
  pub names : HaveNames sieve.names sieve.refusals.items
