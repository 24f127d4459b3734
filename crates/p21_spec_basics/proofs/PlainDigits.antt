-- The plain digits of a number stand for it, and are the only ones that do with no zero in front of another digit.
use Rattle.std.proofs.Common.{◌≡◌, ℕ, zero, suc, inl, inr, ◌+◌, ◌-◌, ◌*◌, ◌^◌, ◌<◌, ◌≤◌, List, [], ◌∷◌, ◌++◌, length, get_or, map, refl, ap, subst, arith, length-append, pow-add}
use Rattle.std.proofs.lemmas.Bool.{cases_order}
use Rattle.std.proofs.lemmas.Int.Digits.{all_below_base_digits_of, first_digits_of, number_digits_of}
use Rattle.std.proofs.lemmas.List.{length-map}
use Rattle.std.proofs.lemmas.Nat.{same_from_place}
use Rattle.std.proofs.Math.Nat.{pow-suc, pow-succ', pow-le-pow_right, add-mul, mul_assoc, mul_comm, mul-le-mul_left}
use Rattle.std.specs.Int.Digits.{AllBelowBase, digits_of, number_from_digits_after}
use Rattle.p21_spec_basics.specs.Digits.{IsDigit, AllDigits, number, plain_digits}

pub digits_append : (a b : List ℕ) → AllDigits a → AllDigits b → AllDigits (a ++ b)
digits_append [] b p q = q
digits_append (x ∷ a) b p q = (p.0, digits_append a b p.1 q)

pub number_append : (a b : List ℕ) → number (a ++ b) ≡ number a * 10 ^ length b + number b
number_append [] b = omega arith
number_append (x ∷ a) b =
    let e = number_append a b in
    let l = length-append a b in
    let p : 10 ^ length (a ++ b) ≡ 10 ^ length a * 10 ^ length b = rw l (pow-add 10 (length a) (length b)) in
    omega (arith, e, ap (λ n. (x - 48) * n) p, mul_assoc (x - 48) (10 ^ length a) (10 ^ length b))

pub number_below : (ds : List ℕ) → AllDigits ds → number ds < 10 ^ length ds
number_below [] p = omega arith
number_below (c ∷ cs) p =
    let h = number_below cs p.1 in
    let d : c - 48 ≤ 9 = omega (arith, p.0) in
    omega (arith, h, pow-suc 10 (length cs), mul-le-mul_left (10 ^ length cs) d, mul_comm (10 ^ length cs) (c - 48))

-- a first digit other than zero makes a number at least the power of ten of its place
pub number_first : (c : ℕ) (cs : List ℕ) → 48 < c → 10 ^ length cs ≤ number (c ∷ cs)
number_first c cs h =
    let one : 1 ≤ c - 48 = omega arith in
    omega (arith, mul-le-mul_left (10 ^ length cs) one, mul_comm (10 ^ length cs) (c - 48))

-- digits with no zero in front of another digit
abbrev pub ArePlain : List ℕ → Type 0
ArePlain [] = ⊥
ArePlain (c ∷ []) = IsDigit c
ArePlain (c ∷ d ∷ ds) = (48 < c) × AllDigits (c ∷ d ∷ ds)

pub plain_are_digits : (ds : List ℕ) → ArePlain ds → AllDigits ds
plain_are_digits [] p = absurd p
plain_are_digits (c ∷ []) p = (p, tt)
plain_are_digits (c ∷ d ∷ ds) p = p.1

pub plain_some : (ds : List ℕ) → ArePlain ds → 0 < length ds
plain_some [] p = absurd p
plain_some (c ∷ ds) p = omega arith

pub plain_low : (ds : List ℕ) → ArePlain ds → 0 < number ds → 10 ^ (length ds - 1) ≤ number ds
plain_low [] p h = absurd p
plain_low (c ∷ []) p h = omega arith
plain_low (c ∷ d ∷ ds) p h = subst (λ (k : ℕ). 10 ^ k ≤ number (c ∷ d ∷ ds)) (let k : length (d ∷ ds) ≡ length (c ∷ d ∷ ds) - 1 = omega arith in k) (number_first c (d ∷ ds) p.0)

pub plain_high : (ds : List ℕ) → ArePlain ds → number ds < 10 ^ suc (length ds - 1)
plain_high ds p =
    let some = plain_some ds p in
    subst (λ (k : ℕ). number ds < 10 ^ k) (let k : length ds ≡ suc (length ds - 1) = omega arith in k) (number_below ds (plain_are_digits ds p))

-- ---- plain digits are known by their number

same_digits : (a b : List ℕ) → AllDigits a → AllDigits b → length a ≡ length b → number a ≡ number b → a ≡ b
same_digits [] [] p q l e = refl
same_digits [] (d ∷ b) p q l e = absurd (omega arith)
same_digits (c ∷ a) [] p q l e = absurd (omega arith)
same_digits (c ∷ a) (d ∷ b) p q l e =
    let l' : length b ≡ length a = omega arith in
    let place = same_from_place (c - 48) (number a) (d - 48) (number b) (10 ^ length a) (number_below a p.1) (rw (← l') (number_below b q.1)) (rw l' at e) in
    let head : c ≡ d = omega (arith, place.0, p.0, q.0) in
    let tail : a ≡ b = same_digits a b p.1 q.1 (omega arith) place.1 in
    (cc)

shorter_less : (a b : List ℕ) → ArePlain a → ArePlain b → length a < length b → number a < number b
shorter_less a [] p q l = absurd q
shorter_less a (d ∷ []) p q l = let n = plain_some a p in absurd (omega arith)
shorter_less a (d ∷ e ∷ b) p q l =
    let low = number_below a (plain_are_digits a p) in
    let high = number_first d (e ∷ b) q.0 in
    omega (arith, low, high, pow-le-pow_right {n = 10} (omega arith) {i = length a} {j = length (e ∷ b)} (omega arith))

pub plain_once : (a b : List ℕ) → ArePlain a → ArePlain b → number a ≡ number b → a ≡ b
plain_once a b p q e =
    elim (cases_order (length a) (length b)) [
      | inl h ↦ same_digits a b (plain_are_digits a p) (plain_are_digits b q) h e
      | inr h ↦ elim h [
        | inl less ↦ absurd (omega (arith, shorter_less a b p q less))
        | inr more ↦ absurd (omega (arith, shorter_less b a q p more))
      ]
    ]

-- ---- the plain digits of a number

text_digits : (ds : List ℕ) → AllBelowBase 10 ds → AllDigits (map (λ d. 48 + d) ds)
text_digits [] p = tt
text_digits (d ∷ ds) p = ((omega arith, omega (arith, p.0)), text_digits ds p.1)

text_number : (n : ℕ) (ds : List ℕ) → number_from_digits_after 10 n ds ≡ n * 10 ^ length ds + number (map (λ d. 48 + d) ds)
text_number n [] = omega arith
text_number n (d ∷ ds) =
    let l : length (map (λ (e : ℕ). 48 + e) ds) ≡ length ds = length-map ds (λ e. 48 + e) in
    let h = text_number (n * 10 + d) ds in
    let step : number_from_digits_after 10 n (d ∷ ds) ≡ number_from_digits_after 10 (n * 10 + d) ds = refl in
    let back : 48 + d - 48 ≡ d = omega arith in
    rw (l, back) (omega (arith, h, step, ap (λ (k : ℕ). n * k) (pow-succ' 10 (length ds)), mul_assoc n 10 (10 ^ length ds), add-mul (n * 10) d (10 ^ length ds)))

text_plain : (ds : List ℕ) → AllBelowBase 10 ds → 0 < get_or ds 0 0 → ArePlain (map (λ d. 48 + d) ds)
text_plain [] p h = absurd (omega arith)
text_plain (d ∷ []) p h = (omega arith, omega (arith, p.0))
text_plain (d ∷ e ∷ ds) p h = (omega arith, text_digits (d ∷ e ∷ ds) p)

pub plain_digits_are : (n : ℕ) → ArePlain (plain_digits n) × (number (plain_digits n) ≡ n)
plain_digits_are zero = ((omega arith, omega arith), omega arith)
plain_digits_are (suc n) =
    let positive : 0 < suc n = omega arith in
    let two : 2 ≤ 10 = omega arith in
    let back = number_digits_of 10 (suc n) two in
    (text_plain (digits_of 10 (suc n)) (all_below_base_digits_of 10 (suc n) two) (first_digits_of 10 (suc n) two positive), omega (arith, back, text_number 0 (digits_of 10 (suc n))))

-- the plain digits of the number of plain digits are these digits
pub plain_digits-number : (ds : List ℕ) → ArePlain ds → plain_digits (number ds) ≡ ds
plain_digits-number ds p =
    let own = plain_digits_are (number ds) in plain_once (plain_digits (number ds)) ds own.0 p own.1
