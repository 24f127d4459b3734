-- The lines of a section, from all positions by rising names.
use Rattle.std.proofs.Common.{◌≡◌, ◌<◌, ℕ, List, [], ◌∷◌, Bool, true, false, cond, length, map, nat_eq, refl, sym, ap, subst, arith}
use Rattle.std.proofs.lemmas.List.{get_or-map, length-map}
use Rattle.std.proofs.lemmas.List.Kept.{IsNonDecreasingBy-filter}
use Rattle.std.proofs.lemmas.List.Sorted.{Contains-permutation, IsPermutation-map, IsPermutation-refl, IsPermutation-sym}
use Rattle.std.proofs.lemmas.Map.Keys.{IsDistinct-IsPermutation}
use Rattle.std.specs.List.{IsDistinct}
use Rattle.std.specs.List.Sorted.{IsNonDecreasingBy, IsPermutation, IsStrictlySortedBy}
use Rattle.std.specs.Ordering.{nat_cmp}
use Rattle.std.specs.Prelude.{Contains, filter}
use Rattle.p21_spec_basics.proofs.Comparing.{nat_eq-turned}
use Rattle.p21_spec_laws.specs.CompleteFile.{Line}
use Rattle.p21_spec_laws.proofs.Output.{lines-by_section}
use Rattle.p21_spec_laws.specs.OutputLaws.{lines_of, stored_at}
use Rattle.p21_spec_laws.specs.Stored.{AreLinesOf, StoredEntry}

mapped-rises_on : {X Y : Type 0} (f : X → Y) (n : Y → ℕ) (xs : List X) → IsNonDecreasingBy (λ (x : X). n (f x)) xs
    → IsNonDecreasingBy n (map f xs)
mapped-rises_on f n [] rises i j d before below = absurd (omega (arith, below))
mapped-rises_on {X} f n (x ∷ xs) rises i j d before below =
    let size = length-map (x ∷ xs) f in
    let within : j < length (x ∷ xs) = omega (arith, below, size) in
    let first : i < length (x ∷ xs) = omega (arith, within, before) in
    let least = rises i j x before within in
    let a = ap n (get_or-map f (x ∷ xs) i x d first) in
    let b = ap n (get_or-map f (x ∷ xs) j x d within) in
    omega (arith, least, a, b)

filter-mapped : (at : ℕ → StoredEntry) (number : ℕ) (order : List ℕ)
    → stored_at number (map at order) ≡ map at (filter (λ (p : ℕ). nat_eq (at p).section number) order)
filter-mapped at number [] = refl
filter-mapped at number (p ∷ order) = by (nat_eq (at p).section number) (filter-mapped at number order)
  where
    by : (b : Bool) → stored_at number (map at order) ≡ map at (filter (λ (q : ℕ). nat_eq (at q).section number) order)
        → cond b (at p ∷ stored_at number (map at order)) (stored_at number (map at order)) ≡ map at
        (cond b (p ∷ filter (λ (q : ℕ). nat_eq (at q).section number) order) (filter (λ (q : ℕ). nat_eq (at q).section number) order))
    by true rest = ap (λ (xs : List StoredEntry). at p ∷ xs) rest
    by false rest = rest

-- what stands at the positions is what is stored, and the positions rise by names: those of a section are its lines, rising
pub section-lines : (stored : List StoredEntry) → IsDistinct nat_eq (map (λ (x : StoredEntry). x.name) stored)
    → (at : ℕ → StoredEntry) (order : List ℕ) → IsPermutation stored (map at order) → IsNonDecreasingBy (λ (p : ℕ). (at p).name) order
    → (number : ℕ) → AreLinesOf stored number (lines_of (map at (filter (λ (p : ℕ). nat_eq (at p).section number) order)))
    × IsStrictlySortedBy nat_cmp (map (λ (l : Line). l.0) (lines_of (map at (filter (λ (p : ℕ). nat_eq (at p).section number) order))))
section-lines stored differ at order are rises number = ((onto, back), found.1)
  where
    own : List StoredEntry
    own = map at (filter (λ (p : ℕ). nat_eq (at p).section number) order)

    found : AreLinesOf (map at order) number (lines_of own) × IsStrictlySortedBy nat_cmp (map (λ (l : Line). l.0) (lines_of own))
    found =
        let differ_ = IsDistinct-IsPermutation nat_eq nat_eq-turned (map (λ (x : StoredEntry). x.name) stored)
        (map (λ (x : StoredEntry). x.name) (map at order)) (IsPermutation-map (λ (x : StoredEntry). x.name) stored (map at order) are)
        differ in
        let P : List StoredEntry → Type 0 = λ xs. IsPermutation xs own in
        let same = subst P (sym (filter-mapped at number order)) (IsPermutation-refl own) in
        lines-by_section (map at order) differ_ number own same
        (mapped-rises_on at (λ (x : StoredEntry). x.name) (filter (λ (p : ℕ). nat_eq (at p).section number) order)
        (IsNonDecreasingBy-filter (λ (p : ℕ). (at p).name) (λ (p : ℕ). nat_eq (at p).section number) order rises))

    onto : (x : StoredEntry) → Contains stored x → x.section ≡ number → Contains (lines_of own) (x.name, x.text)
    onto x among is = found.0.0 x (Contains-permutation stored (map at order) x are among) is

    back : (l : Line) → Contains (lines_of own) l → (x : StoredEntry) × Contains stored x × (x.section ≡ number) × ((x.name, x.text) ≡ l)
    back l among =
        let (x, here, section, is) = found.0.1 l among in
        (x, Contains-permutation (map at order) stored x (IsPermutation-sym stored (map at order) are) here, section, is)
