-- Uses in order, each once.
use Rattle.std.specs.Prelude.{◌≡◌, ◌⊎◌, ℕ, zero, suc, ◌+◌, ◌<◌, ◌≤◌, Bool, true, false, List, [], ◌∷◌, ◌&&◌, Err, nat_eq, Contains, length, refl}
use Rattle.std.specs.Cmp.{IsEquivalence, IsTotalOrder, nat_cmp_is}
use Rattle.std.specs.List.{dedup}
use Rattle.std.specs.List.Sorted.{IsBinarySearchResult, IsNonDecreasingBy, IsPermutation, IsSorted, IsStrictlySortedBy}
use Rattle.std.specs.Ordering.{nat_cmp, is_eq, is_le, is_lt, ordering_reverse, ordering_then, eq_by_cmp}
use Rattle.std.proofs.Common.{Ordering, Less, Equal, Greater, arith, ap, sym, subst, ◌∙◌, inl, inr, get_or, true≢false}
use Rattle.std.proofs.lemmas.Bool.{eqb-true}
use Rattle.std.proofs.lemmas.Bool.Decides.{nat_tests}
use Rattle.std.proofs.lemmas.Cmp.{and_equiv, on_equiv, on_total, nat_cmp_total, nat_eq_equiv, then_total}
use Rattle.std.proofs.lemmas.List.Elements.{Contains-get_or, at_from_Contains}
use Rattle.std.proofs.lemmas.List.Kept.{Contains-dedup, Contains-from_dedup, IsStrictlySortedBy-dedup}
use Rattle.std.proofs.lemmas.List.Sorted.{Contains-permutation, IsPermutation-sym, length_permutation, searchable_from_sorted}
use Rattle.std.proofs.lemmas.Map.Keys.{Less-from_sorted}
use Rattle.p21_spec_basics.proofs.Members.{Each-member}
use Rattle.p21_model_uses.specs.Tables.{AreEachOnce, pair_cmp}
use Rattle.p21_model_uses.specs.UseRows.{AreInOrder, UseRow, use_cmp}

use_total : IsTotalOrder use_cmp
use_total =
    then_total (then_total (then_total (on_total (λ (u : UseRow). u.0) nat_cmp_total) (on_total (λ (u : UseRow). u.1) nat_cmp_total))
    (on_total (λ (u : UseRow). u.2) nat_cmp_total))
    (on_total (λ (u : UseRow). u.3) nat_cmp_total)

abbrev pub use_eq : UseRow → UseRow → Bool
use_eq x y = ((nat_eq x.0 y.0 && nat_eq x.1 y.1) && nat_eq x.2 y.2) && nat_eq x.3 y.3

use_equiv : IsEquivalence use_eq
use_equiv =
    and_equiv (and_equiv (and_equiv (on_equiv (λ (u : UseRow). u.0) nat_eq_equiv) (on_equiv (λ (u : UseRow). u.1) nat_eq_equiv))
    (on_equiv (λ (u : UseRow). u.2) nat_eq_equiv))
    (on_equiv (λ (u : UseRow). u.3) nat_eq_equiv)

-- two tests agree, one behind the other
both-tie : (o p : Ordering) (a b : Bool) → a ≡ is_eq o → b ≡ is_eq p → (a && b) ≡ is_eq (ordering_then o p)
both-tie Less p a b e f = ap (λ (z : Bool). z && b) e
both-tie Greater p a b e f = ap (λ (z : Bool). z && b) e
both-tie Equal p a b e f = ap (λ (z : Bool). z && b) e ∙ f

number-tie : (m n : ℕ) → nat_eq m n ≡ is_eq (nat_cmp m n)
number-tie m n = grind (arith, nat_tests)

use_ties : (x y : UseRow) → use_eq x y ≡ eq_by_cmp use_cmp x y
use_ties x y =
    both-tie (ordering_then (ordering_then (nat_cmp x.0 y.0) (nat_cmp x.1 y.1)) (nat_cmp x.2 y.2)) (nat_cmp x.3 y.3)
    ((nat_eq x.0 y.0 && nat_eq x.1 y.1) && nat_eq x.2 y.2) (nat_eq x.3 y.3)
    (both-tie (ordering_then (nat_cmp x.0 y.0) (nat_cmp x.1 y.1)) (nat_cmp x.2 y.2) (nat_eq x.0 y.0 && nat_eq x.1 y.1) (nat_eq x.2 y.2)
    (both-tie (nat_cmp x.0 y.0) (nat_cmp x.1 y.1) (nat_eq x.0 y.0) (nat_eq x.1 y.1) (number-tie x.0 y.0) (number-tie x.1 y.1))
    (number-tie x.2 y.2)) (number-tie x.3 y.3)

both-true : (a b : Bool) → (a && b) ≡ true → (a ≡ true) × (b ≡ true)
both-true true b same = (refl, same)
both-true false b same = absurd (true≢false (sym same))

use_same : (x y : UseRow) → use_eq x y ≡ true → x ≡ y
use_same x y same =
    let (front, d) = both-true ((nat_eq x.0 y.0 && nat_eq x.1 y.1) && nat_eq x.2 y.2) (nat_eq x.3 y.3) same in
    let (two, c) = both-true (nat_eq x.0 y.0 && nat_eq x.1 y.1) (nat_eq x.2 y.2) front in
    let (a, b) = both-true (nat_eq x.0 y.0) (nat_eq x.1 y.1) two in
    ap (λ k. (k, x.1, x.2, x.3)) (eqb-true x.0 y.0 a) ∙ ap (λ k. (y.0, k, x.2, x.3)) (eqb-true x.1 y.1 b)
    ∙ ap (λ k. (y.0, y.1, k, x.3)) (eqb-true x.2 y.2 c) ∙ ap (λ k. (y.0, y.1, y.2, k)) (eqb-true x.3 y.3 d)

name-low : (u v : UseRow) → use_cmp u v ≡ Less → u.0 ≤ v.0
name-low u v less = elim (either u.0 v.0) [
  | inl up ↦ up
  | inr down ↦ (let above : Greater ≡ nat_cmp u.0 v.0 = nat_cmp_is u.0 v.0 Greater down in
      absurd (true≢false (ap is_lt (sym less ∙ ap (λ (o : Ordering). ordering_then
      (ordering_then (ordering_then o (nat_cmp u.1 v.1)) (nat_cmp u.2 v.2)) (nat_cmp u.3 v.3)) (sym above)))))
]
  where
    either : (x y : ℕ) → (x ≤ y) ⊎ (y < x)
    either x y = grind arith

-- the names that are used don't fall
pub names-rise : (us : List UseRow) → AreInOrder us → IsNonDecreasingBy (λ (u : UseRow). u.0) us
unfolding IsStrictlySortedBy
names-rise [] rises i j d up low = absurd (omega (arith, low))
names-rise (u ∷ us) rises zero zero d up low = omega arith
names-rise (u ∷ us) rises zero (suc j) d up low = name-low u (get_or us j d)
    (Each-member (λ (v : UseRow). use_cmp u v ≡ Less) us (get_or us j d) rises.0 (Contains-get_or us j d (omega (arith, low))))
names-rise (u ∷ us) rises (suc i) zero d up low = absurd (omega (arith, up))
names-rise (u ∷ us) rises (suc i) (suc j) d up low = names-rise us rises.1 i j d (omega (arith, up)) (omega (arith, low))

-- an order, and the test of what it takes as equal
pub record IsOrderWith {X : Type 0} (R : X → X → Ordering) (E : X → X → Bool) : Type 0 where
  pub total : IsTotalOrder R
  pub ties : (x y : X) → E x y ≡ eq_by_cmp R x y
  pub equiv : IsEquivalence E
  pub same : (x y : X) → E x y ≡ true → x ≡ y

pub use-order : IsOrderWith use_cmp use_eq
use-order = record { total = use_total; ties = use_ties; equiv = use_equiv; same = use_same }

pub number-order : IsOrderWith nat_cmp nat_eq
number-order = record { total = nat_cmp_total; ties = number-tie; equiv = nat_eq_equiv; same = eqb-true }

abbrev pub pair_eq : ℕ × ℕ → ℕ × ℕ → Bool
pair_eq x y = nat_eq x.0 y.0 && nat_eq x.1 y.1

pub pair-order : IsOrderWith pair_cmp pair_eq
pair-order = record {
  total = then_total (on_total (λ (p : ℕ × ℕ). p.0) nat_cmp_total) (on_total (λ (p : ℕ × ℕ). p.1) nat_cmp_total);
  ties = λ x y. both-tie (nat_cmp x.0 y.0) (nat_cmp x.1 y.1) (nat_eq x.0 y.0) (nat_eq x.1 y.1) (number-tie x.0 y.0) (number-tie x.1 y.1);
  equiv = and_equiv (on_equiv (λ (p : ℕ × ℕ). p.0) nat_eq_equiv) (on_equiv (λ (p : ℕ × ℕ). p.1) nat_eq_equiv);
  same = λ x y same. let (a, b) = both-true (nat_eq x.0 y.0) (nat_eq x.1 y.1) same in ap (λ k. (k, x.1)) (eqb-true x.0 y.0 a)
      ∙ ap (λ k. (y.0, k)) (eqb-true x.1 y.1 b);
}

-- what a sort and a dedup leave of a list
pub each-once : {X : Type 0} {R : X → X → Ordering} {E : X → X → Bool} (o : IsOrderWith R E) (all sorted once : List X)
    → IsPermutation all sorted → IsSorted R sorted → once ≡ dedup E sorted
    → length once ≤ length sorted → AreEachOnce R all once
each-once {X} {R} {E} o all sorted once moved rising is bound = record {
  rises = subst (IsStrictlySortedBy R) (sym is) (IsStrictlySortedBy-dedup o.total o.ties sorted rising);
  members = λ x. let Has : List X → Type 0 = λ xs. Contains xs x in (
    λ among. Contains-permutation sorted all x (IsPermutation-sym all sorted moved) (Contains-from_dedup E sorted x (subst Has is among)),
    λ among. subst Has (sym is) (Contains-dedup o.equiv o.same sorted x (Contains-permutation all sorted x moved among)),
  );
  bound = subst (λ (n : ℕ). length once ≤ n) (length_permutation all sorted moved) bound;
}

equal-to-itself : (o : Ordering) → o ≡ ordering_reverse o → o ≡ Equal
equal-to-itself Equal same = refl
equal-to-itself Less same = absurd (true≢false (ap is_lt same))
equal-to-itself Greater same = absurd (true≢false (sym (ap is_lt same)))

-- what stands among those that rise is found
pub not-missing : {X : Type 0} {R : X → X → Ordering} (o : IsTotalOrder R) (xs : List X) (x : X) (at : ℕ) → IsStrictlySortedBy R xs
    → Contains xs x
    → IsBinarySearchResult (λ y. R y x) xs (Err at) → ⊥
not-missing {X} {R} o xs x at rises among searched =
    let point = searched (searchable_from_sorted o (λ y. y) xs x sorted) in
    let (k, inside, is_x) = at_from_Contains xs x among in
    let equal : R (get_or xs k x) x ≡ Equal = ap (λ y. R y x) (is_x x) ∙ equal-to-itself (R x x) (o.antisymm x x) in
    elim (either k at) [
      | inl low ↦ true≢false (ap is_lt (sym (point.0 k x (omega arith) low) ∙ equal))
      | inr from ↦ true≢false (sym (ap is_le (sym (point.1 k x from inside) ∙ equal)))
    ]
  where
    either : (x y : ℕ) → (x < y) ⊎ (y ≤ x)
    either x y = grind arith

    sorted : IsSorted R xs
    sorted k d from below = ap is_lt (o.antisymm (get_or xs (k + 1) d) (get_or xs k d)
        ∙ ap ordering_reverse (Less-from_sorted R xs k (k + 1) d rises (omega arith) below))
