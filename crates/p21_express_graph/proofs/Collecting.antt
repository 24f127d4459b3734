-- The table of what numbers that lead to numbers come to.
use Rattle.std.specs.Prelude.{◌≡◌, ◌↔◌, ℕ, zero, suc, ◌+◌, ◌<◌, List, [], ◌∷◌, ◌++◌, Some, length, slice_get, slice_set, take, nat_eq, Contains, refl, Result, Ok, Err}
use Rattle.std.specs.List.{flat_map}
use Rattle.std.specs.List.Retain.{IsFiltered, DiffersFromLast}
use Rattle.std.specs.List.Sorted.{IsStrictlyIncreasing, IsBinarySearchResult, IsPermutation, IsSorted}
use Rattle.std.specs.Ordering.{nat_cmp}
use Rattle.std.proofs.Common.{arith, ap, sym, ◌∙◌, subst, inl, inr, get_or, append_assoc}
use Rattle.std.proofs.lemmas.Bool.{cases_eq, cases_lt}
use Rattle.std.proofs.lemmas.Grind.{get_or_default_zero}
use Rattle.std.proofs.lemmas.List.Elements.{Contains-append_left, Contains-append_right, Contains-append_cases}
use Rattle.std.proofs.lemmas.List.Filters.{dedup_is}
use Rattle.std.proofs.lemmas.List.Kept.{Contains-dedup_nat, Contains-from_dedup}
use Rattle.std.proofs.lemmas.List.Sorted.{searched, Contains-permutation, IsPermutation-sym}
use Rattle.std.proofs.lemmas.Map.Keys.{IsStrictlyIncreasing-dedup}
use Rattle.std.proofs.lemmas.List.{length-set}
use Rattle.p21_spec_basics.proofs.Members.{Contains-none, Contains-found, Contains-flat_map, Contains-one_of}
use Rattle.p21_spec_basics.proofs.RisingLists.{never-fall}
use Rattle.p21_express_graph.specs.CollectedLists.{Collects, of_own, of_next, IsRisingOf, AreCollected}
use Rattle.p21_express_graph.specs.SettledOrder.{nexts_of, IsNext, IsSettledOrder}
use Rattle.p21_express_graph.proofs.OrderTables.{set-same, set-other, take-more}

-- numbers that were sorted, and of which each was left but once
pub rising-deduped : {xs sorted ys : List ℕ} → IsPermutation xs sorted → IsSorted nat_cmp sorted → IsFiltered (DiffersFromLast nat_eq) [] sorted ys → IsRisingOf xs ys
rising-deduped {xs} {sorted} {ys} moved rises filtered =
    let is = dedup_is nat_eq sorted ys filtered in
    let P : List ℕ → Type 0 = λ zs. IsStrictlyIncreasing zs in
    record {
      same = λ y. (
        λ among. let Q : List ℕ → Type 0 = λ zs. Contains zs y in Contains-permutation sorted xs y (IsPermutation-sym xs sorted moved) (Contains-from_dedup nat_eq sorted y (subst Q is among)),
        λ among. let Q : List ℕ → Type 0 = λ zs. Contains zs y in subst Q (sym is) (Contains-dedup_nat sorted y (Contains-permutation xs sorted y moved among)),
      );
      rising = subst P (sym is) (IsStrictlyIncreasing-dedup sorted rises);
    }

-- a search among rising numbers finds just what is there
pub finds : (xs : List ℕ) (x : ℕ) (r : Result ℕ ℕ) → IsStrictlyIncreasing xs → IsBinarySearchResult (λ y. nat_cmp y x) xs r → Contains xs x → (i : ℕ) × (r ≡ Ok i)
finds xs x (Ok i) rising is among = (i, refl)
finds xs x (Err i) rising is (k, below, at) =
    let place = searched xs x (Err i) is (never-fall xs rising) in
    let here : get_or xs k x ≡ get_or xs k 0 = get_or_default_zero xs k x below in
    absurd (elim (cases_lt k i) [ inl h ↦ (let lt = place.1 k h in omega (arith, lt, at, here)) | inr h ↦ (let gt = place.2 k h below in omega (arith, gt, at, here)) ])

pub found-there : (xs : List ℕ) (x : ℕ) (r : Result ℕ ℕ) (i : ℕ) → IsStrictlyIncreasing xs → IsBinarySearchResult (λ y. nat_cmp y x) xs r → r ≡ Ok i → Contains xs x
found-there xs x (Ok j) i rising is same =
    let (below, at) = searched xs x (Ok j) is (never-fall xs rising) in
    (j, below, get_or_default_zero xs j x below ∙ at)
found-there xs x (Err j) i rising is same = cc

module _ (own nexts lists : List (List ℕ)) where
  -- what is gathered of a number is what it comes to, where the lists of the next ones are
  pub gathered-is : (x : ℕ) → ((next : ℕ) → IsNext nexts x next → (y : ℕ) → Contains (nexts_of lists next) y ↔ Collects own nexts next y) → (y : ℕ) → Contains (nexts_of own x ++ flat_map (nexts_of lists) (nexts_of nexts x)) y ↔ Collects own nexts x y
  gathered-is x are y = (
    λ among. elim (Contains-append_cases (nexts_of own x) (flat_map (nexts_of lists) (nexts_of nexts x)) y among) [
      | inl h ↦ of_own x y h
      | inr h ↦ let (next, is_next, has) = Contains-one_of (nexts_of lists) (nexts_of nexts x) y h in of_next x next y is_next ((are next is_next y).0 has)
    ],
    λ comes. back x y comes are,
  )
    where
      back : (x y : ℕ) → Collects own nexts x y → ((next : ℕ) → IsNext nexts x next → (y : ℕ) → Contains (nexts_of lists next) y ↔ Collects own nexts next y) → Contains (nexts_of own x ++ flat_map (nexts_of lists) (nexts_of nexts x)) y
      back x y (of_own _ _ has) are = Contains-append_left (nexts_of own x) (flat_map (nexts_of lists) (nexts_of nexts x)) y has
      back x y (of_next _ next _ is_next more) are = Contains-append_right (nexts_of own x) (flat_map (nexts_of lists) (nexts_of nexts x)) y (Contains-flat_map (nexts_of lists) (nexts_of nexts x) next y is_next ((are next is_next y).1 more))

-- the lists of what was listed so far are complete
pub record AreSoFar (own nexts lists : List (List ℕ)) (done : List ℕ) : Type 0 where
  pub size : length lists ≡ length nexts
  pub each : (x : ℕ) → Contains done x → (y : ℕ) → Contains (nexts_of lists x) y ↔ Collects own nexts x y
  pub rising : (x : ℕ) → IsStrictlyIncreasing (nexts_of lists x)

pub none-so-far : (own nexts lists : List (List ℕ)) → length lists ≡ length nexts → ((x : ℕ) → nexts_of lists x ≡ []) → AreSoFar own nexts lists []
none-so-far own nexts lists size none = record {
  size = size;
  each = λ x among. absurd (Contains-none x among);
  rising = λ x. subst IsStrictlyIncreasing (sym (none x)) (λ k below. absurd (omega (arith, below)));
}

module _ (own nexts : List (List ℕ)) (listed : List ℕ) (settled_order : IsSettledOrder nexts listed) (lists : List (List ℕ)) (k x : ℕ) (at : slice_get listed k ≡ Some x) (so_far : AreSoFar own nexts lists (take k listed)) where
  pub listed-within : x < length lists
  listed-within = let below = settled_order.within x (Contains-found listed k x at) in omega (arith, below, so_far.size)

  -- one list more
  pub so-far-more : (list : List ℕ) → IsRisingOf (nexts_of own x ++ flat_map (nexts_of lists) (nexts_of nexts x)) list → AreSoFar own nexts (slice_set lists x list) (take (suc k) listed)
  so-far-more list is = record {
    size = length-set lists x list ∙ so_far.size;
    each = λ z among y. elim (cases_eq z x) [
      | inl same ↦
          let P : ℕ → Type 0 = λ w. Contains (nexts_of (slice_set lists x list) w) y ↔ Collects own nexts w y in
          let Q : List ℕ → Type 0 = λ ys. Contains ys y ↔ Collects own nexts x y in
          let gathered = gathered-is own nexts lists x (λ next is_next. so_far.each next (settled_order.behind k x next at is_next)) y in
          subst P (sym same) (subst Q (sym (set-same lists x list listed-within)) (λ has. gathered.0 ((is.same y).0 has), λ comes. (is.same y).1 (gathered.1 comes)))
      | inr other ↦
          let Q : List ℕ → Type 0 = λ ys. Contains ys y ↔ Collects own nexts z y in
          subst Q (sym (set-other lists x z list other)) (so_far.each z (elim (take-more listed k z among) [ inl h ↦ h | inr h ↦ absurd (other (let same : Some z ≡ Some x = sym h ∙ at in let inner : z ≡ x = cc in inner)) ]) y)
    ];
    rising = λ z. elim (cases_eq z x) [
      | inl same ↦
          let P : ℕ → Type 0 = λ w. IsStrictlyIncreasing (nexts_of (slice_set lists x list) w) in
          subst P (sym same) (subst IsStrictlyIncreasing (sym (set-same lists x list listed-within)) is.rising)
      | inr other ↦ subst IsStrictlyIncreasing (sym (set-other lists x z list other)) (so_far.rising z)
    ];
  }

-- at the end all are
pub all-collected : (own nexts : List (List ℕ)) (listed : List ℕ) → IsSettledOrder nexts listed → (lists : List (List ℕ)) → AreSoFar own nexts lists listed → AreCollected own nexts lists
all-collected own nexts listed settled_order lists so_far = record { size = so_far.size; each = λ x below. so_far.each x (settled_order.all x below); rising = so_far.rising }

-- one list more is joined
pub joined-more : (nexts : ℕ → List ℕ) (xs own found : List ℕ) (k : ℕ) → k < length xs → found ≡ nexts (get_or xs k 0) → (own ++ flat_map nexts (take k xs)) ++ found ≡ own ++ flat_map nexts (take (k + 1) xs)
joined-more nexts xs own found k below is =
    let next : k + 1 ≡ suc k = omega arith in
    append_assoc own (flat_map nexts (take k xs)) found ∙ ap (λ ys. own ++ ys) (more xs k below is ∙ ap (λ n. flat_map nexts (take n xs)) (sym next))
  where
    more : (ys : List ℕ) (i : ℕ) → i < length ys → found ≡ nexts (get_or ys i 0) → flat_map nexts (take i ys) ++ found ≡ flat_map nexts (take (suc i) ys)
    more [] i below is = let none : ⊥ = omega (arith, below) in absurd none
    more (y ∷ ys) zero below is = is ∙ sym (append_nil (nexts y))
      where
        append_nil : (zs : List ℕ) → zs ++ [] ≡ zs
        append_nil [] = refl
        append_nil (z ∷ zs) = ap (λ ws. z ∷ ws) (append_nil zs)
    more (y ∷ ys) (suc i) below is = append_assoc (nexts y) (flat_map nexts (take i ys)) found ∙ ap (λ zs. nexts y ++ zs) (more ys i (omega (arith, below)) is)
