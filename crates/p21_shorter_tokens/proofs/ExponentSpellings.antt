-- Exponents of one digit and of two.
use Rattle.std.proofs.Common.{◌≡◌, ℕ, zero, suc, ◌+◌, ◌/◌, ◌%◌, ◌<◌, ◌≤◌, ℤ, pos, negsuc, nat_abs, ◌≤ℤ◌, ◌<ℤ◌, ◌-ℤ◌, Bool, true, false, inl, inr, List, [], ◌∷◌, ◌++◌, length, take, set, refl, ap, sym, ◌∙◌, arith, append_assoc, append-nil, true≢false, if◌then◌else◌}
use Rattle.std.proofs.lemmas.Bool.{cases_lt, lt-ltb, le-ltb}
use Rattle.std.proofs.lemmas.Int.{ints}
use Rattle.std.proofs.lemmas.List.{length-set, take_more_set}
use Rattle.p21_spec_basics.specs.Digits.{number}
use Rattle.p21_spec_exchange.specs.Spelling.{exponent_spelling}
use Rattle.p21_values.proofs.StoredDecimals.{negative_exponent, positive_exponent}
use Rattle.p21_scan.specs.Digits.{WithoutLeadingZeros}
use Rattle.p21_shorter_tokens.specs.Numbers.{few_digits}

-- a sign, and digits with no zero in front
spelled : (z : ℤ) (negative : Bool) (ds : List ℕ) → WithoutLeadingZeros ds ds → number ds ≡ nat_abs z → (z ≡ pos 0 → ⊥) → (negative ≡ true → z <ℤ pos 0) → (negative ≡ false → pos 0 ≤ℤ z) → exponent_spelling z ≡ 69 ∷ ((if negative then 45 ∷ [] else []) ++ ds)
spelled z true ds h e other below above = negative_exponent z ds ds h e other (below refl)
spelled z false ds h e other below above = positive_exponent z ds ds h e other (above refl)

module _ (z : ℤ) (negative : Bool) (other : z ≡ pos 0 → ⊥) (below : negative ≡ true → z <ℤ pos 0) (above : negative ≡ false → pos 0 ≤ℤ z) where
  some : 0 < nat_abs z
  some = at z other
    where
      at : (z : ℤ) → (z ≡ pos 0 → ⊥) → 0 < nat_abs z
      at (pos zero) h = absurd (h refl)
      at (pos (suc n)) h = omega arith
      at (negsuc n) h = omega arith

  pub one_digit : (value : ℕ) → value ≡ nat_abs z → value < 10 → exponent_spelling z ≡ 69 ∷ ((if negative then 45 ∷ [] else []) ++ (48 + value) ∷ [])
  one_digit value e few =
      let s = some in
      spelled z negative ((48 + value) ∷ []) (record { are_digits = ((omega arith, omega arith), tt); first = λ h. omega arith; same = refl }) (omega arith) other below above

  pub two_digits : (value : ℕ) → value ≡ nat_abs z → 10 ≤ value → value < 100 → exponent_spelling z ≡ 69 ∷ ((if negative then 45 ∷ [] else []) ++ (48 + value / 10) ∷ (48 + value % 10) ∷ [])
  two_digits value e many few =
      spelled z negative ((48 + value / 10) ∷ (48 + value % 10) ∷ []) (record { are_digits = ((omega arith, omega arith), ((omega arith, omega arith), tt)); first = λ h. omega arith; same = refl }) (omega arith) other below above

  pub few : (value : ℕ) → value ≡ nat_abs z → value < 100
      → exponent_spelling z ≡ 69 ∷ ((if negative then 45 ∷ [] else []) ++ few_digits value)
  few value e small =
      let at : Bool → List ℕ = λ t. 69 ∷ ((if negative then 45 ∷ [] else []) ++ (if t then (48 + value) ∷ [] else (48 + value / 10) ∷ (48
      + value % 10) ∷ [])) in
      elim (cases_lt value 10) [
        | inl one ↦ one_digit value e one ∙ ap at (sym (lt-ltb value 10 one))
        | inr two ↦ two_digits value e two small ∙ ap at (sym (le-ltb value 10 two))
      ]

-- ---- digits that are written behind a mark

pub written_one : (room : List ℕ) (at x : ℕ) (front mark : List ℕ) → at < length room → take at room ≡ front ++ mark → take (at + 1) (set room at x) ≡ front ++ (mark ++ x ∷ [])
written_one room at x front mark within is = take_more_set room at x within ∙ (ap (λ (l : List ℕ). l ++ x ∷ []) is ∙ append_assoc front mark (x ∷ []))

pub written_two : (room : List ℕ) (at x y : ℕ) (front mark : List ℕ) → at + 1 < length room → take at room ≡ front ++ mark → take (at + 2) (set (set room at x) (at + 1) y) ≡ front ++ (mark ++ x ∷ y ∷ [])
written_two room at x y front mark within is =
    let next : at + 2 ≡ at + 1 + 1 = omega arith in
    ap (λ (n : ℕ). take n (set (set room at x) (at + 1) y)) next ∙ take_more_set (set room at x) (at + 1) y (omega (arith, length-set room at x))
    ∙ ap (λ (l : List ℕ). l ++ y ∷ []) (written_one room at x front mark (omega arith) is) ∙ append_assoc front (mark ++ x ∷ []) (y ∷ []) ∙ ap (λ (l : List ℕ). front ++ l) (append_assoc mark (x ∷ []) (y ∷ []))

-- ---- an exponent whose sign is known

pub raised : (room new : List ℕ) (at value end : ℕ) → at < length room → 0 < value → value < 100
    → take end new ≡ take (at + 1) (set room at 69) ++ few_digits value → take end new ≡ take at room ++ exponent_spelling (pos value)
raised room new at value end within some small is =
    is ∙ ap (λ (l : List ℕ). l ++ few_digits value) (take_more_set room at 69 within)
    ∙ append_assoc (take at room) (69 ∷ []) (few_digits value)
    ∙ ap (λ (l : List ℕ). take at room ++ l) (sym (few (pos value) false (λ e. omega (arith, ints, e)) (λ e. absurd (true≢false (sym e)))
    (λ _. omega (arith, ints)) value refl small))

pub lowered : (room new : List ℕ) (at value end : ℕ) → at + 1 < length room → 0 < value → value < 100
    → take end new ≡ take (at + 2) (set (set room at 69) (at + 1) 45) ++ few_digits value
    → take end new ≡ take at room ++ exponent_spelling (pos 0 -ℤ pos value)
lowered room new at value end within some small is =
    is ∙ ap (λ (l : List ℕ). l ++ few_digits value) (written_two room at 69 45 (take at room) [] within (sym (append-nil (take at
    room)))) ∙ append_assoc (take at room) (69 ∷ 45 ∷ []) (few_digits value)
    ∙ ap (λ (l : List ℕ). take at room ++ l) (sym (few (pos 0 -ℤ pos value) true (λ e. omega (arith, ints, e)) (λ _. omega (arith, ints))
    (λ e. absurd (true≢false e)) value (omega (arith, ints)) small))
