-- The references that no instance serves, apart from those to instances that are refused.
use Rattle.std.specs.Prelude.{◌≡◌, ◌⊎◌, ◌<◌, ℕ, List, ◌++◌, length, false, Option, Some, None, Contains}
use Rattle.std.specs.BTreeSet.{BTreeSet, contains}
use Rattle.std.specs.List.{AllByRecursion as Each}
use Rattle.std.specs.Ordering.{nat_cmp}
use Rattle.p21_spec_laws.specs.Keeping.{IsServedBy, Kept}
use Rattle.p21_spec_laws.specs.Waiting.{Reference}
use Rattle.p21_spec_schema.specs.Schema.{Schema}
use Rattle.p21_stream_kept.specs.Served.{RefusesNeed}
use Rattle.p21_stream_statements.specs.declared.fault.Fault.{Fault}
use Rattle.p21_stream_statements.specs.declared.refusal.Refusal.{Refusal}
use Rattle.p21_stream_sieve.specs.Sifting.{HasName, at_instance}

-- no instance of these names is its target, and none that is kept serves it
pub record IsRefused (s : Schema) (kept : Kept) (names : BTreeSet ℕ) (reference : Reference) (fault : Fault) : Type 0 where
  pub judged : contains nat_cmp names reference.1.target ≡ false
  pub refused : RefusesNeed s kept.stored reference.1 fault

-- a reference is refused; or it is served, or its target has one of these names
abbrev pub AnswersReference : Schema → Kept → BTreeSet ℕ → Reference → Option Fault → Type 0
AnswersReference s kept names reference None = HasName names reference.1.target ⊎ IsServedBy s kept.stored reference.1
AnswersReference s kept names reference (Some fault) = IsRefused s kept names reference fault

-- the refusal is of this reference
abbrev pub IsRefusalOf : Schema → Kept → BTreeSet ℕ → Reference → Refusal → Type 0
IsRefusalOf s kept names reference refusal = (fault : Fault) × IsRefused s kept names reference fault
    × (refusal ≡ at_instance fault reference.0)

-- the target has one of these names, or it serves, or the refusal of the reference is among these
abbrev pub IsAnswered : Schema → Kept → BTreeSet ℕ → List Refusal → Reference → Type 0
IsAnswered s kept names refusals reference = HasName names reference.1.target ⊎ IsServedBy s kept.stored reference.1
    ⊎ ((refusal : Refusal) × Contains refusals refusal × IsRefusalOf s kept names reference refusal)

-- the refusal of a reference is added, where it has one
pub record AddsRefusal (s : Schema) (kept : Kept) (names : BTreeSet ℕ) (reference : Reference) (old new : List Refusal) : Type 0 where
  pub added : List Refusal
  pub new_is : new ≡ old ++ added
  pub right : Each (IsRefusalOf s kept names reference) added
  pub answered : IsAnswered s kept names added reference

-- refusals of references that wait are added: of all of them, if there are fewer than so many in the end
pub record ListsUnserved (s : Schema) (kept : Kept) (names : BTreeSet ℕ) (most : ℕ) (old new : List Refusal) : Type 0 where
  pub added : List Refusal
  pub new_is : new ≡ old ++ added
  pub right : Each (λ (refusal : Refusal). (reference : Reference) × Contains kept.waiting reference
      × IsRefusalOf s kept names reference refusal) added
  pub all : length new < most → Each (IsAnswered s kept names added) kept.waiting
