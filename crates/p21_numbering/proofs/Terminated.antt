-- Texts with a 0 behind each compare as texts.
use Rattle.std.specs.Prelude.{◌≡◌, ◌⊎◌, ℕ, suc, ◌<◌, List, [], ◌∷◌, ◌++◌, map, refl}
use Rattle.std.specs.Cmp.{nat_cmp_is}
use Rattle.std.specs.Cmp.Lexicographic.{slice_cmp}
use Rattle.std.specs.Ordering.{nat_cmp, ordering_then}
use Rattle.std.proofs.Common.{Ordering, Less, Equal, Greater, arith, ap, sym, ◌∙◌, inl, inr}

pub then-then : (p q r : Ordering) → ordering_then (ordering_then p q) r ≡ ordering_then p (ordering_then q r)
then-then Less q r = refl
then-then Greater q r = refl
then-then Equal q r = refl

pub then-equal : (r : Ordering) → ordering_then r Equal ≡ r
then-equal Less = refl
then-equal Greater = refl
then-equal Equal = refl

three : (i j : ℕ) → (i < j) ⊎ ((i ≡ j) ⊎ (j < i))
three i j = grind arith

sucs-compare : (i j : ℕ) → nat_cmp (suc i) (suc j) ≡ nat_cmp i j
sucs-compare i j = elim (three i j) [
  | inl low ↦ sym (nat_cmp_is (suc i) (suc j) Less (omega (arith, low))) ∙ nat_cmp_is i j Less low
  | inr other ↦ elim other [
    | inl same ↦ sym (nat_cmp_is (suc i) (suc j) Equal (omega (arith, same))) ∙ nat_cmp_is i j Equal same
    | inr high ↦ sym (nat_cmp_is (suc i) (suc j) Greater (omega (arith, high))) ∙ nat_cmp_is i j Greater high
  ]
]

-- numbers from 1 on, and behind them 0 and more
pub ends-compare : (x y a b : List ℕ) → slice_cmp nat_cmp (map suc x ++ (0 ∷ a)) (map suc y ++ (0 ∷ b)) ≡ ordering_then
    (slice_cmp nat_cmp x y) (slice_cmp nat_cmp a b)
ends-compare [] [] a b = refl
ends-compare [] (y ∷ ys) a b = ap (λ (o : Ordering). ordering_then o (slice_cmp nat_cmp a (map suc ys ++ (0 ∷ b))))
    (sym (nat_cmp_is 0 (suc y) Less (omega arith)))
ends-compare (x ∷ xs) [] a b = ap (λ (o : Ordering). ordering_then o (slice_cmp nat_cmp (map suc xs ++ (0 ∷ a)) b))
    (sym (nat_cmp_is (suc x) 0 Greater (omega arith)))
ends-compare (x ∷ xs) (y ∷ ys) a b =
    ap (λ (o : Ordering). ordering_then o (slice_cmp nat_cmp (map suc xs ++ (0 ∷ a)) (map suc ys ++ (0 ∷ b)))) (sucs-compare x y)
    ∙ ap (ordering_then (nat_cmp x y)) (ends-compare xs ys a b)
    ∙ sym (then-then (nat_cmp x y) (slice_cmp nat_cmp xs ys) (slice_cmp nat_cmp a b))
