-- Which references of a file that is read by itself are told to names that no instance has (this project's own).
use Rattle.std.specs.Prelude.{◌≡◌, ◌⊎◌, ◌<◌, ℕ, false, List, ◌++◌, length, Contains}
use Rattle.std.specs.BTreeSet.{contains}
use Rattle.std.specs.List.{AllByRecursion as Each}
use Rattle.std.specs.Ordering.{nat_cmp}
use Rattle.p21_stream_sieve.specs.Sifting.{at_instance}
use Rattle.p21_stream_statements.specs.declared.fault.Fault.TheVariants.{Dangling}
use Rattle.p21_stream_statements.specs.declared.refusal.Refusal.{Refusal}
use Rattle.p21_stream_survey.specs.Telling.{IsSilent, Silence}
use Rattle.p21_stream_syntax.specs.Waiting.{Claim}

-- no instance has the name of a reference, and that is told
pub record IsMissing (names : List ℕ) (silence : Silence) (claim : Claim) : Type 0 where
  pub unknown : ¬ Contains names claim.1
  pub judged : contains nat_cmp silence.names claim.1 ≡ false
  pub first : contains nat_cmp silence.passed claim.1 ≡ false
  pub whole : silence.is_broken ≡ false

-- the refusal is of this reference
abbrev pub IsMissingOf : List ℕ → Silence → Claim → Refusal → Type 0
IsMissingOf names silence claim refusal = IsMissing names silence claim × (refusal ≡ at_instance Dangling claim.0)

-- an instance has its name, or nothing is told of it, or its refusal is among these
abbrev pub IsAnsweredAlone : List ℕ → Silence → List Refusal → Claim → Type 0
IsAnsweredAlone names silence refusals claim =
    Contains names claim.1 ⊎ ((¬ Contains names claim.1) × IsSilent silence claim.1 Dangling)
    ⊎ ((refusal : Refusal) × Contains refusals refusal × IsMissingOf names silence claim refusal)

-- the refusal of a reference is added, where it has one that is told
pub record AddsMissing (names : List ℕ) (silence : Silence) (claim : Claim) (old new : List Refusal) : Type 0 where
  pub added : List Refusal
  pub new_is : new ≡ old ++ added
  pub right : Each (IsMissingOf names silence claim) added
  pub answered : IsAnsweredAlone names silence added claim

-- refusals of references that wait are added: of all of them, if there are fewer than so many in the end
pub record ListsMissing (names : List ℕ) (waiting : List Claim) (silence : Silence) (most : ℕ) (old new : List Refusal) : Type 0 where
  pub added : List Refusal
  pub new_is : new ≡ old ++ added
  pub right : Each (λ (refusal : Refusal). (claim : Claim) × Contains waiting claim × IsMissingOf names silence claim refusal) added
  pub all : length new < most → Each (IsAnsweredAlone names silence added) waiting
