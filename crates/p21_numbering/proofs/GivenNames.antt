-- New names that are given one by one, and the numbers of an order.
use Rattle.std.specs.BTreeMap.{BTreeMap, Updates, get}
use Rattle.std.specs.List.{IsDistinct}
use Rattle.std.specs.Ordering.{nat_cmp}
use Rattle.std.specs.Prelude.{◌≡◌, ◌<◌, ◌+◌, ℕ, suc, List, [], ◌∷◌, Option, Some, None, length, map, nat_eq, Contains, refl}
use Rattle.std.proofs.Common.{arith, ap, sym, subst, ◌∙◌, inl, inr, get_or}
use Rattle.std.proofs.lemmas.Bool.{cases_eq}
use Rattle.p21_spec_basics.proofs.Comparing.{is_at-other}
use Rattle.p21_spec_basics.proofs.Shuffles.{NoneTwice, distinct-none_twice}
use Rattle.p21_spec_numbering.proofs.Orders.{position-at}
use Rattle.p21_spec_numbering.specs.Ordered.{number_in, position}
use Rattle.p21_numbering.specs.NewNames.{new_name}
use Rattle.p21_numbering.proofs.Decisions.{got, once-at}

-- the names at the first positions have the new ones of these
abbrev pub GetBelow : BTreeMap ℕ ℕ → List ℕ → (ℕ → ℕ) → ℕ → Type 0
GetBelow found ns new k = NoneTwice ns → (j : ℕ) → j < k → new_name found (get_or ns j 0) ≡ new j

map-same : (xs : List ℕ) → map (λ n. n) xs ≡ xs
map-same [] = refl
map-same (x ∷ xs) = ap (λ (ys : List ℕ). x ∷ ys) (map-same xs)

earlier : (j k : ℕ) → j < k + 1 → (j ≡ k → ⊥) → j < k
earlier j k low other = elim (cases_eq j k) [
  | inl same ↦ absurd (other same)
  | inr differ ↦ omega (arith, low, differ)
]

pub get-more : (before after : BTreeMap ℕ ℕ) (ns : List ℕ) (new : ℕ → ℕ) (k : ℕ) → k < length ns
    → Updates nat_cmp before after (get_or ns k 0) (Some (new k)) → GetBelow before ns new k → GetBelow after ns new (k + 1)
get-more before after ns new k low updates so_far once j below = elim (cases_eq (get_or ns j 0) (get_or ns k 0)) [
  | inl same ↦
      let at : j ≡ k = once-at (λ n. n) 0 ns (let P : List ℕ → Type 0 = λ xs. NoneTwice xs in subst P (sym (map-same ns)) once) j k
      (omega (arith, below, low)) low same in
      ap (λ (o : Option ℕ). elim o [ Some n ↦ n | None ↦ 0 ]) (ap (get nat_cmp after) same ∙ updates.1) ∙ ap new (sym at)
  | inr differ ↦
      ap (λ (o : Option ℕ). elim o [ Some n ↦ n | None ↦ 0 ])
      (updates.2 (get_or ns j 0) (is_at-other (get_or ns k 0) (get_or ns j 0) differ))
      ∙ so_far once j (earlier j k below (λ same. differ (ap (λ i. get_or ns i 0) same)))
]

-- where each position has its number, each name has that of the order
pub numbers-given : (found : BTreeMap ℕ ℕ) (order : List ℕ) (k : ℕ) → GetBelow found order (λ j. j + 1) k → length order < k + 1
    → IsDistinct nat_eq order
    → (n : ℕ) → Contains order n → new_name found n ≡ number_in order n
numbers-given found order k given long once n among =
    let (low, same) = got order (position order n) n 0 (position-at order n among) in
    let next : position order n + 1 ≡ suc (position order n) = omega arith in
    ap (new_name found) (sym same) ∙ given (distinct-none_twice order once) (position order n) (omega (arith, low, long)) ∙ next
