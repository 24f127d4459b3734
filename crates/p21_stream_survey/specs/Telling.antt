-- Which references are told that no instance serves, and which of these are listed (this project's own).
use Rattle.std.specs.Prelude.{◌≡◌, ◌⊎◌, ◌<◌, ℕ, Bool, true, false, List, ◌++◌, length, Contains}
use Rattle.std.specs.BTreeSet.{BTreeSet, contains}
use Rattle.std.specs.List.{AllByRecursion as Each}
use Rattle.std.specs.Ordering.{nat_cmp}
use Rattle.p21_spec_laws.specs.Keeping.{IsServedBy}
use Rattle.p21_spec_laws.specs.Stored.{StoredEntry}
use Rattle.p21_spec_laws.specs.Waiting.{Reference}
use Rattle.p21_spec_schema.specs.Schema.{Schema}
use Rattle.p21_stream_kept.specs.Served.{RefusesNeed}
use Rattle.p21_stream_sieve.specs.Sifting.{HasName, at_instance}
use Rattle.p21_stream_statements.specs.declared.fault.Fault.{Fault}
use Rattle.p21_stream_statements.specs.declared.fault.Fault.TheVariants.{Dangling}
use Rattle.p21_stream_statements.specs.declared.refusal.Refusal.{Refusal}

-- What isn't told: references to instances that were refused, left out or passed over; and where bytes were passed over, that no instance
-- has a name
pub record Silence : Type 0 where
  pub names : BTreeSet ℕ
  pub passed : BTreeSet ℕ
  pub is_broken : Bool

-- nothing is told of a reference to this name that is refused by this fault
abbrev pub IsSilent : Silence → ℕ → Fault → Type 0
IsSilent silence target fault = HasName silence.names target ⊎ HasName silence.passed target
    ⊎ ((fault ≡ Dangling) × (silence.is_broken ≡ true))

-- none that is stored serves it, and it is told
pub record IsTold (s : Schema) (stored : List StoredEntry) (silence : Silence) (reference : Reference) (fault : Fault) : Type 0 where
  pub refused : RefusesNeed s stored reference.1 fault
  pub judged : contains nat_cmp silence.names reference.1.target ≡ false
  pub first : contains nat_cmp silence.passed reference.1.target ≡ false
  pub whole : fault ≡ Dangling → silence.is_broken ≡ false

-- the refusal is of this reference
abbrev pub IsRefusalOf : Schema → List StoredEntry → Silence → Reference → Refusal → Type 0
IsRefusalOf s stored silence reference refusal = (fault : Fault) × IsTold s stored silence reference fault
    × (refusal ≡ at_instance fault reference.0)

-- it is served, or nothing is told of it, or its refusal is among these
abbrev pub IsAnswered : Schema → List StoredEntry → Silence → List Refusal → Reference → Type 0
IsAnswered s stored silence refusals reference =
    IsServedBy s stored reference.1 ⊎ ((fault : Fault) × RefusesNeed s stored reference.1 fault × IsSilent silence reference.1.target fault)
    ⊎ ((refusal : Refusal) × Contains refusals refusal × IsRefusalOf s stored silence reference refusal)

-- the refusal of a reference is added, where it has one that is told
pub record AddsRefusal (s : Schema) (stored : List StoredEntry) (silence : Silence) (reference : Reference) (old new : List Refusal) : Type
    0 where
  pub added : List Refusal
  pub new_is : new ≡ old ++ added
  pub right : Each (IsRefusalOf s stored silence reference) added
  pub answered : IsAnswered s stored silence added reference

-- refusals of references that wait are added: of all of them, if there are fewer than so many in the end
pub record ListsReferences (s : Schema) (stored : List StoredEntry) (waiting : List Reference) (silence : Silence) (most : ℕ)
    (old new : List Refusal) : Type 0 where
  pub added : List Refusal
  pub new_is : new ≡ old ++ added
  pub right : Each (λ (refusal : Refusal). (reference : Reference) × Contains waiting reference
      × IsRefusalOf s stored silence reference refusal) added
  pub all : length new < most → Each (IsAnswered s stored silence added) waiting
