-- The entities of own sets that are noted at ONEOF lists.
use Rattle.std.specs.Prelude.{◌≡◌, ◌≢◌, ◌<◌, ◌+◌, ℕ, zero, suc, Bool, true, false, List, [], ◌∷◌, Option, None, Some, length, nat_eq, slice_get, slice_set, refl, if◌then◌else◌}
use Rattle.std.specs.List.{AllByRecursion as Each}
use Rattle.std.proofs.Common.{arith, ap, sym, subst, ◌∙◌, inl, inr}
use Rattle.std.proofs.lemmas.Bool.{cases_eq}
use Rattle.std.proofs.lemmas.Bool.Decides.{nat_tests}
use Rattle.std.proofs.lemmas.List.{length-set}
use Rattle.std.proofs.lemmas.Option.{slice_get_within}
use Rattle.p21_spec_schema.specs.Schema.{Schema}
use Rattle.p21_schema.specs.NotedEntities.{IsNone, NoneFrom, NoneNoted, Notes, NotesSet, holder_of, noted_in}
use Rattle.p21_schema.specs.OneOf.{IsListedIn}
use Rattle.p21_schema.specs.declared.holders.Holder.{Holder}

same-number : (m n : ℕ) → m ≡ n → nat_eq m n ≡ true
same-number m n same = by (nat_eq m n) refl
  where
    by : (b : Bool) → nat_eq m n ≡ b → nat_eq m n ≡ true
    by true is = is
    by false is = absurd (grind (arith, nat_tests))

other-number : (m n : ℕ) → m ≢ n → nat_eq m n ≡ false
other-number m n differ = by (nat_eq m n) refl
  where
    by : (b : Bool) → nat_eq m n ≡ b → nat_eq m n ≡ false
    by true is = let same : m ≡ n = grind (arith, nat_tests) in absurd (differ same)
    by false is = is

holder-same : (h : Holder) (set : ℕ) → h.set ≡ set → holder_of set (Some (Some h)) ≡ Some h.entity
holder-same h set same = ap (λ b. if b then Some h.entity else None) (same-number h.set set same)

holder-other : (h : Holder) (set : ℕ) → h.set ≢ set → holder_of set (Some (Some h)) ≡ None
holder-other h set differ = ap (λ b. if b then Some h.entity else None) (other-number h.set set differ)

-- what the last one that was noted at a list says
pub held : (lists : List (Option Holder)) (set k : ℕ) (h : Holder) → slice_get lists k ≡ Some (Some h) → h.set ≡ set
    → Some h.entity ≡ noted_in lists set k
held lists set k h at same = sym (ap (holder_of set) at ∙ holder-same h set same)

pub held-other : (lists : List (Option Holder)) (set k : ℕ) (h : Holder) → slice_get lists k ≡ Some (Some h) → h.set ≢ set
    → None ≡ noted_in lists set k
held-other lists set k h at differ = sym (ap (holder_of set) at ∙ holder-other h set differ)

pub held-none : (lists : List (Option Holder)) (set k : ℕ) → slice_get lists k ≡ Some None → None ≡ noted_in lists set k
held-none lists set k at = sym (ap (holder_of set) at)

set-here : {X : Type 0} (xs : List X) (k : ℕ) (x : X) → k < length xs → slice_get (slice_set xs k x) k ≡ Some x
set-here [] k x below = absurd (omega (arith, below))
set-here (y ∷ xs) zero x below = refl
set-here (y ∷ xs) (suc k) x below = set-here xs k x (omega (arith, below))

set-other : {X : Type 0} (xs : List X) (i k : ℕ) (x : X) → k ≢ i → slice_get (slice_set xs i x) k ≡ slice_get xs k
set-other [] i k x differ = refl
set-other (y ∷ xs) zero zero x differ = absurd (differ refl)
set-other (y ∷ xs) zero (suc k) x differ = refl
set-other (y ∷ xs) (suc i) zero x differ = refl
set-other (y ∷ xs) (suc i) (suc k) x differ = set-other xs i k x (λ same. differ (ap suc same))

-- one more is noted
module _ (lists : List (Option Holder)) (list : ℕ) (h : Holder) (below : list < length lists) where
  pub notes : Notes h.set list h.entity lists (slice_set lists list (Some h))
  notes = record {
    here = ap (holder_of h.set) (set-here lists list (Some h) below) ∙ holder-same h h.set refl;
    apart = λ k differ. ap (holder_of h.set) (set-other lists list k (Some h) differ);
    set_is = record { size = length-set lists list (Some h); others = others };
  }
    where
      others : (other : ℕ) → other ≢ h.set → NoneNoted other lists → NoneNoted other (slice_set lists list (Some h))
      others other differ none k = elim (cases_eq k list) [
        | inl same ↦
            let P : ℕ → Type 0 = λ j. slice_get (slice_set lists list (Some h)) j ≡ Some (Some h) in
            ap (holder_of other) (subst P (sym same) (set-here lists list (Some h) below)) ∙ holder-other h other (λ is. differ (sym is))
        | inr apart ↦ ap (holder_of other) (set-other lists list k (Some h) apart) ∙ none k
      ]

pub notes-none : (set : ℕ) (lists : List (Option Holder)) → NotesSet set lists lists
notes-none set lists = record { size = refl; others = λ other differ none. none }

pub notes-further : (set : ℕ) (before now after : List (Option Holder)) → NotesSet set before now → NotesSet set now after
    → NotesSet set before after
notes-further set before now after so_far next = record {
  size = next.size ∙ so_far.size;
  others = λ other differ none. next.others other differ (so_far.others other differ none);
}

-- where none was noted at a list none is noted for a set
pub none-from : (lists : List (Option Holder)) → Each IsNone lists → NoneFrom 0 lists
none-from lists all set least k = by_place lists all k
  where
    by_place : (ls : List (Option Holder)) → Each IsNone ls → (k : ℕ) → noted_in ls set k ≡ None
    by_place [] each k = refl
    by_place (l ∷ ls) each zero = ap (λ h. holder_of set (Some h)) each.0
    by_place (l ∷ ls) each (suc k) = by_place ls each.1 k

-- behind one set there is none of the sets with higher numbers
pub none-next : (number : ℕ) (before after : List (Option Holder)) → NotesSet number before after → NoneFrom number before
    → NoneFrom (number + 1) after
none-next number before after noted none set least = noted.others set (λ same. omega (arith, least, same)) (none set (omega (arith, least)))

-- the number of a list with an entity is that of one of the lists
pub list-within : (s : Schema) (e k : ℕ) → IsListedIn s k e → k < length s.one_of_lists
list-within s e k (listed, at, has) = slice_get_within s.one_of_lists k listed at
