-- Sizes of parts, and the largest of a cell.
use Rattle.std.specs.Prelude.{◌≡◌, ◌≢◌, ℕ, suc, ◌+◌, ◌<◌, ◌≤◌, Bool, true, false, cond, List, [], ◌∷◌, ◌++◌, length, Contains, nat_eq, slice_set, refl}
use Rattle.std.specs.List.{range_with_len}
use Rattle.std.proofs.Common.{arith, ap, sym, subst, ◌∙◌, inl, inr, map-id, length-set}
use Rattle.std.proofs.lemmas.Bool.Decides.{nat_tests}
use Rattle.std.proofs.lemmas.List.{get_or-set_same, get_or-set_other}
use Rattle.std.proofs.lemmas.List.FromFn.{map-range_with_len_more, length-range_with_len}
use Rattle.p21_spec_basics.proofs.Members.{Contains-none, Contains-cases}
use Rattle.p21_spec_numbering.specs.Graph.{how_many}
use Rattle.p21_numbering.specs.Arrays.{rank_at}
use Rattle.p21_numbering.specs.Largest.{AreSizes}

pub range-more : (n : ℕ) → range_with_len 0 (n + 1) ≡ range_with_len 0 n ++ n ∷ []
range-more n =
    let none : 0 + n ≡ n = omega arith in
    sym (map-id (range_with_len 0 (n + 1))) ∙ map-range_with_len_more (λ k. k) 0 n n none
    ∙ ap (λ (ks : List ℕ). ks ++ n ∷ []) (map-id (range_with_len 0 n))

count-joined : {X : Type 0} (p : X → Bool) (xs ys : List X) → how_many p (xs ++ ys) ≡ how_many p xs + how_many p ys
count-joined p [] ys = omega arith
count-joined p (x ∷ xs) ys = let rest = count-joined p xs ys in omega (arith, rest)

count-more : (p : ℕ → Bool) (n : ℕ) → how_many p (range_with_len 0 (n + 1)) ≡ how_many p (range_with_len 0 n) + cond (p n) 1 0
count-more p n = let joined = ap (how_many p) (range-more n) ∙ count-joined p (range_with_len 0 n) (n ∷ []) in omega (arith, joined)

pub count-bound : {X : Type 0} (p : X → Bool) (xs : List X) → how_many p xs ≤ length xs
count-bound p [] = omega arith
count-bound p (x ∷ xs) = by_test (p x) (count-bound p xs)
  where
    by_test : (b : Bool) → how_many p xs ≤ length xs → cond b 1 0 + how_many p xs ≤ suc (length xs)
    by_test true h = omega (arith, h)
    by_test false h = omega (arith, h)

-- one that fails leaves fewer
pub count-below : {X : Type 0} (p : X → Bool) (xs : List X) (x : X) → Contains xs x → p x ≡ false → how_many p xs < length xs
count-below p [] x among fail = absurd (Contains-none x among)
count-below {X} p (y ∷ ys) x among fail = elim (Contains-cases y ys x among) [
  | inl same ↦ (let P : X → Type 0 = λ z. p z ≡ false in let first : ◌≡◌ {A = ℕ} (cond (p y) 1 0) 0 =
      ap (λ (b : Bool). cond b 1 0) (subst P (sym same) fail) in let rest = count-bound p ys in omega (arith, first, rest))
  | inr later ↦ by_test (p y) (count-below p ys x later fail)
]
  where
    by_test : (b : Bool) → how_many p ys < length ys → cond b 1 0 + how_many p ys < suc (length ys)
    by_test true h = omega (arith, h)
    by_test false h = omega (arith, h)

-- ---- sizes

pub no-sizes : (count : ℕ) (cell sizes : List ℕ) → length sizes ≡ count → ((c : ℕ) → c < count → rank_at sizes c ≡ 0)
    → AreSizes count 0 cell sizes
no-sizes count cell sizes long none = record { long = long; each = none }

pub size-bound : (count nodes : ℕ) (cell sizes : List ℕ) → AreSizes count nodes cell sizes → (c : ℕ) → c < count → rank_at sizes c ≤ nodes
size-bound count nodes cell sizes are c low = omega
    (arith, are.each c low, count-bound (λ m. nat_eq (rank_at cell m) c) (range_with_len 0 nodes), length-range_with_len 0 nodes)

pub sizes-more : (count n : ℕ) (cell sizes : List ℕ) → AreSizes count n cell sizes → rank_at cell n < count
    → AreSizes count (n + 1) cell (slice_set sizes (rank_at cell n) (rank_at sizes (rank_at cell n) + 1))
sizes-more count n cell sizes are small = record {
  long = length-set sizes (rank_at cell n) (rank_at sizes (rank_at cell n) + 1) ∙ are.long;
  each = each;
}
  where
    part : ℕ
    part = rank_at cell n

    each : (c : ℕ) → c < count → rank_at (slice_set sizes (rank_at cell n) (rank_at sizes (rank_at cell n) + 1)) c ≡ how_many
        (λ m. nat_eq (rank_at cell m) c) (range_with_len 0 (n + 1))
    each c low = by_test (nat_eq (rank_at cell n) c) refl
      where
        by_test : (b : Bool) → nat_eq (rank_at cell n) c ≡ b
            → rank_at (slice_set sizes (rank_at cell n) (rank_at sizes (rank_at cell n) + 1)) c ≡ how_many (λ m. nat_eq (rank_at cell m) c)
            (range_with_len 0 (n + 1))
        by_test true e =
            let same : rank_at cell n ≡ c = grind (arith, nat_tests) in
            let one : ◌≡◌ {A = ℕ} (cond (nat_eq (rank_at cell n) c) 1 0) 1 = ap (λ (b : Bool). cond b 1 0) e in
            let more = count-more (λ m. nat_eq (rank_at cell m) c) n in
            let P : ℕ → Type 0 = λ k. rank_at (slice_set sizes (rank_at cell n) (rank_at sizes (rank_at cell n) + 1)) k ≡ rank_at sizes
            k + 1 in
            let here = subst P same (get_or-set_same sizes (rank_at cell n) (rank_at sizes (rank_at cell n) + 1) 0
            (omega (arith, small, are.long))) in
            omega (arith, one, more, here, are.each c low)
        by_test false e =
            let other : c ≢ rank_at cell n = λ same. grind (arith, nat_tests) in
            let none : ◌≡◌ {A = ℕ} (cond (nat_eq (rank_at cell n) c) 1 0) 0 = ap (λ (b : Bool). cond b 1 0) e in
            let more = count-more (λ m. nat_eq (rank_at cell m) c) n in
            let there : rank_at (slice_set sizes (rank_at cell n) (rank_at sizes (rank_at cell n) + 1)) c ≡ rank_at sizes c =
            get_or-set_other sizes (rank_at cell n) c (rank_at sizes (rank_at cell n) + 1) 0 other in
            omega (arith, none, more, there, are.each c low)
