-- Bytes that are compared eight at a time.
use Rattle.std.proofs.Common.{◌≡◌, ◌∙◌, ℕ, zero, suc, ◌+◌, ◌-◌, ◌≤◌, List, [], ◌∷◌, ◌++◌, length, take, drop, refl, ap, sym, subst, arith, inl, inr, get_or, ◌<◌, w8, Fits, T, IsTrue, nat_eq}
use Rattle.std.proofs.Math.Facts.{eqb_yes}
use Rattle.std.proofs.Math.Seq.{take-add}
use Rattle.std.proofs.lemmas.Bool.{cases_lt}
use Rattle.std.proofs.lemmas.List.{get_or-drop, get_or-take, get_or_past, length-drop, length-take-le, take_all, take_rest}
use Rattle.std.proofs.lemmas.Nat.{le_bytes_8}
use Rattle.std.specs.Int.{from_le_bytes, to_le_bytes, w64}

-- eight more
pub more-same : (xs ys : List ℕ) (n : ℕ) → take n xs ≡ take n ys → take 8 (drop n xs) ≡ take 8 (drop n ys)
    → take (n + 8) xs ≡ take (n + 8) ys
more-same xs ys n front word = take-add n 8 xs ∙ ap (λ (x : List ℕ). x ++ take 8 (drop n xs)) front
    ∙ ap (λ (x : List ℕ). take n ys ++ x) word ∙ sym (take-add n 8 ys)

fewer-same : (m n : ℕ) (xs ys : List ℕ) → m ≤ n → take n xs ≡ take n ys → take m xs ≡ take m ys
fewer-same zero n xs ys within same = refl
fewer-same (suc m) zero xs ys within same = absurd (omega (arith, within))
fewer-same (suc m) (suc n) [] [] within same = refl
fewer-same (suc m) (suc n) [] (y ∷ ys) within same = cc
fewer-same (suc m) (suc n) (x ∷ xs) [] within same = cc
fewer-same (suc m) (suc n) (x ∷ xs) (y ∷ ys) within same =
    let first : x ≡ y = cc in
    let more : take n xs ≡ take n ys = cc in
    ap (λ (z : ℕ). z ∷ take m xs) first ∙ ap (λ (zs : List ℕ). y ∷ zs) (fewer-same m n xs ys (omega (arith, within)) more)

-- the last eight too
pub all-same : (xs ys : List ℕ) (last n : ℕ) → length xs ≡ length ys → length xs ≡ last + 8 → last ≤ n → take n xs ≡ take n ys
    → take 8 (drop last xs) ≡ take 8 (drop last ys)
    → xs ≡ ys
all-same xs ys last n sizes size within front end =
    let before : take last xs ≡ take last ys = fewer-same last n xs ys within front in
    sym (take_all (last + 8) xs (omega (arith, size))) ∙ more-same xs ys last before end
    ∙ take_all (last + 8) ys (omega (arith, sizes, size))

pub same-number : (a b : ℕ) → IsTrue (nat_eq a b) → a ≡ b
same-number a b same = eqb_yes (subst T (sym same) tt)

word-byte : (xs : List ℕ) (at : ℕ) → at + 8 ≤ length xs → ((i : ℕ) → Fits w8 (get_or xs i 0)) → (i : ℕ)
    → get_or (take 8 (drop at xs)) i 0 < 256
word-byte xs at within fits i = elim (cases_lt i 8) [
  | inl h ↦ subst (λ (b : ℕ). b < 256) (sym (get_or-take 8 (drop at xs) i 0 h ∙ get_or-drop at xs i 0)) (fits (at + i)).fits
  | inr h ↦
      let size : length (take 8 (drop at xs)) ≡ 8 = length-take-le 8 (drop at xs) (omega (arith, within, length-drop at xs)) in
      subst (λ (b : ℕ). b < 256) (sym (get_or_past (take 8 (drop at xs)) i 0 (omega (arith, h, size)))) (omega arith)
]

-- the number of eight bytes gives them back
pub word-is : (xs : List ℕ) (at n : ℕ) (front : List ℕ) → ((i : ℕ) → Fits w8 (get_or xs i 0)) → at + 8 ≤ length xs
    → front ≡ take 8 (take (length xs - at) (drop at xs))
    → n ≡ from_le_bytes w64 front → to_le_bytes w64 n ≡ take 8 (drop at xs)
word-is xs at n front fits within is number =
    le_bytes_8 (take 8 (drop at xs)) n (length-take-le 8 (drop at xs) (omega (arith, within, length-drop at xs)))
    (word-byte xs at within fits) (number ∙ ap (from_le_bytes w64) (is ∙ ap (take 8) (take_rest xs at)))
