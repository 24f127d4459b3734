-- Digits one by one.
use Rattle.std.proofs.Common.{◌≡◌, ◌≢◌, ℕ, zero, suc, ◌+◌, ◌-◌, ◌*◌, ◌^◌, ◌%◌, ◌<◌, ◌≤◌, List, [], ◌∷◌, ◌++◌, length, take, drop, get_or, inl, inr, ap, sym, subst, ◌∙◌, arith}
use Rattle.std.proofs.lemmas.Bool.{cases_lt}
use Rattle.std.proofs.lemmas.List.{length-take-le, take_more, take-append-drop}
use Rattle.std.proofs.Math.Nat.{mul_assoc, mul-le-mul_left, one-le-pow, pow-le-pow_right, pow-succ'}
use Rattle.p21_spec_basics.specs.Digits.{AllDigits, IsDigit, number}
use Rattle.p21_scan.specs.Digits.{HasNoLeadingZero}
use Rattle.p21_spec_basics.proofs.PlainDigits.{digits_append, number_append, number_below, number_first}

pub digits_more : (xs : List ℕ) (i : ℕ) → i < length xs → AllDigits (take i xs) → IsDigit (get_or xs i 0) → AllDigits (take (i + 1) xs)
digits_more xs i lt p d = rw (take_more xs i 0 lt) (digits_append (take i xs) (get_or xs i 0 ∷ []) p (d, tt))

pub number_push : (xs : List ℕ) (y : ℕ) → number (xs ++ y ∷ []) ≡ number xs * 10 + (y - 48)
number_push xs y = number_append xs (y ∷ []) ∙ (omega arith)

pub number_more : (xs : List ℕ) (i : ℕ) → i < length xs → number (take (i + 1) xs) ≡ number (take i xs) * 10 + (get_or xs i 0 - 48)
number_more xs i lt = rw (take_more xs i 0 lt) (number_push (take i xs) (get_or xs i 0))

pub digit_at : (xs : List ℕ) (i : ℕ) → AllDigits xs → i < length xs → IsDigit (get_or xs i 0)
digit_at [] i p h = absurd (omega arith)
digit_at (c ∷ xs) zero p h = p.0
digit_at (c ∷ xs) (suc i) p h = digit_at xs i p.1 (omega arith)

pub digits_parts : (a b : List ℕ) → AllDigits (a ++ b) → AllDigits a × AllDigits b
digits_parts [] b p = (tt, p)
digits_parts (x ∷ a) b p = let r = digits_parts a b p.1 in ((p.0, r.0), r.1)

-- digits at the front are below the power of ten of their count
pub front-below : (xs : List ℕ) (i : ℕ) → AllDigits xs → i ≤ length xs → number (take i xs) < 10 ^ i
front-below xs i all within =
    let parts = digits_parts (take i xs) (drop i xs) (subst AllDigits (sym (take-append-drop i xs)) all) in
    subst (λ (n : ℕ). number (take i xs) < 10 ^ n) (length-take-le i xs within) (number_below (take i xs) parts.0)

-- further digits make no number smaller
pub number_take : (i : ℕ) (xs : List ℕ) → number (take i xs) ≤ number xs
number_take i xs =
    let split = number_append (take i xs) (drop i xs) in
    let more = mul-le-mul_left (number (take i xs)) (one-le-pow (length (drop i xs)) 10 (omega arith)) in
    subst (λ (ys : List ℕ). number (take i xs) ≤ number ys) (take-append-drop i xs) (omega (arith, split, more))

-- ---- zeros at the end

last_of : (xs : List ℕ) (k : ℕ) → 0 < k → k ≤ length xs → number (take k xs) ≡ number (take (k - 1) xs) * 10 + (get_or xs (k - 1) 0 - 48)
last_of xs k some within =
    let back : k ≡ k - 1 + 1 = omega arith in
    ap (λ (i : ℕ). number (take i xs)) back ∙ number_more xs (k - 1) (omega arith)

-- one zero more that is cut
pub zeros_more : (xs : List ℕ) (k : ℕ) → 0 < k → k ≤ length xs → get_or xs (k - 1) 0 ≡ 48 → number xs ≡ number (take k xs) * 10 ^ (length xs - k) → number xs ≡ number (take (k - 1) xs) * 10 ^ (length xs - (k - 1))
zeros_more xs k some within last same =
    let front = number (take (k - 1) xs) in
    let cut : number (take k xs) ≡ front * 10 = omega (arith, last_of xs k some within, last) in
    let power : 10 * 10 ^ (length xs - k) ≡ 10 ^ (length xs - (k - 1)) = sym (pow-succ' 10 (length xs - k)) ∙ ap (λ (i : ℕ). 10 ^ i) (let e : suc (length xs - k) ≡ length xs - (k - 1) = omega arith in e) in
    same ∙ ap (λ (n : ℕ). n * 10 ^ (length xs - k)) cut ∙ mul_assoc front 10 (10 ^ (length xs - k)) ∙ ap (λ (n : ℕ). front * n) power

-- digits that do not end with a zero make no multiple of ten
pub no_end_zero : (xs : List ℕ) (k : ℕ) → AllDigits xs → k ≤ length xs → (0 < k → get_or xs (k - 1) 0 ≢ 48) → number (take k xs) % 10 ≡ 0 → take k xs ≡ []
no_end_zero xs k p within other multiple =
    elim (cases_lt 0 k) [
      | inl some ↦
          let digit = digit_at xs (k - 1) p (omega arith) in
          absurd (other some (omega (arith, last_of xs k some within, digit.0, digit.1)))
      | inr none_kept ↦ let empty : k ≡ 0 = omega arith in rw empty
    ]

-- so many digits make no larger number
pub below_power : (xs : List ℕ) (k : ℕ) → AllDigits xs → length xs ≤ k → number xs < 10 ^ k
below_power xs k p short = omega (arith, number_below xs p, pow-le-pow_right {n = 10} (omega arith) {i = length xs} {j = k} (omega arith))

-- digits of which the first is no zero make no smaller number
pub significant_long : (xs : List ℕ) (k : ℕ) → AllDigits xs → HasNoLeadingZero xs → k < length xs → 10 ^ k ≤ number xs
significant_long [] k p n long = absurd (omega arith)
significant_long (c ∷ xs) k p n long = omega (arith, number_first c xs (omega (arith, p.0, n)), pow-le-pow_right {n = 10} (omega arith) {i = k} {j = length xs} (omega arith))
