-- What the lanes find of a real, as the readers of digits say it: the digits before and behind the point, the zeros in
-- front of them, and what is left of them without the zeros at their end.
use Rattle.std.proofs.Common.{◌≡◌, ◌≢◌, ℕ, zero, suc, ◌+◌, ◌-◌, ◌*◌, ◌^◌, ◌<◌, ◌≤◌, Bool, true, false, not, ◌&&◌, inl, inr, List, [], ◌∷◌, ◌++◌, ◌⊎◌, length, take, drop, get_or, replicate, nat_eq, ltb, if◌then◌else◌, refl, ap, ap₂, sym, subst, ◌∙◌, arith, length-append, length-drop, length-take-le}
use Rattle.std.proofs.Math.Nat.{mul-one, pow-zero}
use Rattle.std.proofs.lemmas.Bool.{cases_lt, cases_eq, lt-ltb, le-ltb}
use Rattle.std.proofs.lemmas.Bool.Decides.{nat_tests}
use Rattle.std.proofs.lemmas.List.{drop_more, drop-drop, get_or-append-add, get_or_append_left, get_or-drop, get_or-take, take_all, take-append-le, take-take}
use Rattle.std.proofs.Math.Seq.{take-append-add}
use Rattle.p21_spec_basics.proofs.PlainDigits.{digits_append}
use Rattle.p21_spec_basics.specs.Digits.{AllDigits, IsDigit, is_digit, number}
use Rattle.p21_shorter_tokens.specs.Places.{HasPlaces}
use Rattle.p21_scan.proofs.DigitRuns as runs
use Rattle.p21_scan.specs.Digits.{WithoutTrailingZeros}
use Rattle.p21_scan.proofs.DigitRows.{digits-front, fails, no_digit-behind, passes}
use Rattle.p21_shorter_tokens.proofs.Zeros.{end_cut, zeros_ended, zeros_whole}
use Rattle.p21_shorter_tokens.specs.Significands.{further_digits}
use Rattle.p21_shorter_tokens.specs.Runs.{AreLeadingZeros, IsDigitRun}

-- ---- digits of which all behind a place are zeros

same-by : (m : ℕ) (digits : List ℕ) (k : ℕ) → k + m ≡ length digits → ((j : ℕ) → k ≤ j → j < length digits → get_or digits j 0 ≡ 48) → number digits ≡ number (take k digits) * 10 ^ (length digits - k)
same-by zero digits k whole zeros =
    let none : length digits - k ≡ 0 = omega arith in
    let one : 10 ^ (length digits - k) ≡ 1 = ap (λ (i : ℕ). 10 ^ i) none ∙ pow-zero 10 in
    sym (ap number (take_all k digits (omega arith))) ∙ sym (mul-one (number (take k digits))) ∙ ap (λ (x : ℕ). number (take k digits) * x) (sym one)
same-by (suc m) digits k whole zeros =
    let back : suc k - 1 ≡ k = omega arith in
    subst (λ (i : ℕ). number digits ≡ number (take i digits) * 10 ^ (length digits - i)) back
    (runs.zeros_more digits (suc k) (omega arith) (omega arith) (zeros (suc k - 1) (omega arith) (omega arith))
    (same-by m digits (suc k) (omega arith) (λ j from to. zeros j (omega arith) to)))

pub zeros-cut : (digits : List ℕ) (kept : ℕ) → AllDigits digits → kept ≤ length digits → ((j : ℕ) → kept ≤ j → j < length digits → get_or digits j 0 ≡ 48) → (0 < kept → get_or digits (kept - 1) 0 ≢ 48) → WithoutTrailingZeros digits (take kept digits)
zeros-cut digits kept are within zeros last = end_cut digits kept are within (same-by (length digits - kept) digits kept (omega arith) zeros) last

-- ---- digits up to a byte that is none

run_ended : (bytes : List ℕ) (n : ℕ) → n < length bytes → AllDigits (take n bytes) → (IsDigit (get_or bytes n 0) → ⊥) → IsDigitRun bytes n
run_ended bytes n room h other = record { within = omega arith; digits = h; ends = no_digit-behind bytes n (λ _. other) }

-- ---- zeros at the front

zeros-front : (xs : List ℕ) (n : ℕ) → n ≤ length xs → ((k : ℕ) → k < n → get_or xs k 0 ≡ 48) → take n xs ≡ replicate n 48
zeros-front xs zero within h = refl
zeros-front [] (suc n) within h = absurd (omega arith)
zeros-front (x ∷ xs) (suc n) within h = ap₂ (λ (b : ℕ) (l : List ℕ). b ∷ l) (h 0 (omega arith)) (zeros-front xs n (omega arith) (λ k l. h (suc k) (omega arith)))

zeros-up_to : (xs : List ℕ) (n : ℕ) → n < length xs → ((k : ℕ) → k < n → get_or xs k 0 ≡ 48) → get_or xs n 0 ≢ 48 → AreLeadingZeros xs n
zeros-up_to xs n room h other = zeros_ended xs n room (zeros-front xs n (omega arith) h) other

zeros-all : (xs : List ℕ) (n : ℕ) → n ≡ length xs → ((k : ℕ) → k < n → get_or xs k 0 ≡ 48) → AreLeadingZeros xs n
zeros-all xs n is h = subst (AreLeadingZeros xs) (sym is) (zeros_whole xs (zeros-front xs (length xs) (omega arith) (λ k l. h k (omega arith))))

-- ---- a byte, by the tests of the lanes

counts-no_zero : (b : ℕ) → (is_digit b && not (nat_eq b 48)) ≡ true → b ≢ 48
counts-no_zero b h e = by (is_digit b) (nat_eq b 48) refl h
  where
    by : (d z : Bool) → nat_eq b 48 ≡ z → (d && not z) ≡ true → ⊥
    by true true f g = absurd cc
    by false z f g = absurd cc
    by true false f g = absurd (grind (arith, nat_tests))

counts-digit : (b : ℕ) → (is_digit b && not (nat_eq b 48)) ≡ true → IsDigit b
counts-digit b h = by (is_digit b) refl h
  where
    by : (d : Bool) → not (is_digit b) ≡ not d → (d && not (nat_eq b 48)) ≡ true → IsDigit b
    by true e g = passes b e
    by false e g = absurd cc

zero-of : (b : ℕ) → IsDigit b → (is_digit b && not (nat_eq b 48)) ≡ false → b ≡ 48
zero-of b digit h = by (is_digit b) (nat_eq b 48) refl refl h
  where
    by : (d z : Bool) → not (is_digit b) ≡ not d → nat_eq b 48 ≡ z → (d && not z) ≡ false → b ≡ 48
    by true true e f g = grind (arith, nat_tests)
    by true false e f g = absurd cc
    by false z e f g = absurd (fails b e digit)

taken : (n : ℕ) (xs : List ℕ) (x : ℕ) (rest : List ℕ) → 0 < n → xs ≡ x ∷ rest → take n xs ≡ x ∷ take (n - 1) rest
taken zero xs x rest some is = absurd (omega arith)
taken (suc n) xs x rest some is = let back : n ≡ suc n - 1 = omega arith in ap (take (suc n)) is ∙ ap (λ (k : ℕ). x ∷ take k rest) back

module _ (bytes : List ℕ) (at point end first behind : ℕ) (h : HasPlaces bytes at point end first behind) where
  order : (0 < point) × (point < end) × (at + end < length bytes)
  order = (h.some, h.ordered, h.within)

  digit : (k : ℕ) → k < end → (k ≡ point → ⊥) → IsDigit (get_or bytes (at + k) 0)
  digit k low other = elim (cases_lt k point) [
    | inl before ↦ passes _ (h.point_is.before k (omega arith) before)
    | inr from ↦ passes _ (h.between k (omega arith) low)
  ]

  behind_point : (k : ℕ) → at + point + 1 + k ≡ at + (point + 1 + k)
  behind_point k = omega arith

  -- the digits before the point
  pub whole : IsDigitRun (drop at bytes) point
  whole =
      let o = order in
      run_ended (drop at bytes) point (omega (arith, length-drop at bytes))
      (digits-front (drop at bytes) point (λ k low. subst IsDigit (sym (get_or-drop at bytes k 0)) (digit k (omega arith) (λ e. omega arith))))
      (λ d. let e = get_or-drop at bytes point 0 ∙ h.dot in omega (arith, d, e))

  -- the point, and what stands behind it
  pub dot : drop point (drop at bytes) ≡ 46 ∷ drop (at + point + 1) bytes
  dot =
      let o = order in
      drop-drop point at bytes ∙ drop_more bytes (at + point) 0 (omega arith) ∙ ap (λ b. b ∷ drop (at + point + 1) bytes) h.dot

  -- the digits behind it
  pub fraction : IsDigitRun (drop (at + point + 1) bytes) (end - point - 1)
  fraction =
      let o = order in
      let decimals = drop (at + point + 1) bytes in
      run_ended decimals (end - point - 1) (omega (arith, length-drop (at + point + 1) bytes))
      (digits-front decimals (end - point - 1) (λ k low. subst IsDigit (sym (get_or-drop (at + point + 1) bytes k 0 ∙ ap (λ i. get_or bytes i 0) (behind_point k))) (digit (point + 1 + k) (omega arith) (λ e. omega arith))))
      (λ d. fails _ h.end_is (subst IsDigit (get_or-drop (at + point + 1) bytes (end - point - 1) 0 ∙ ap (λ i. get_or bytes i 0) (let e : at + point + 1 + (end - point - 1) ≡ at + end = omega arith in e)) d))

  -- a digit before the first that counts, and one behind the last, is a zero
  zero-before : (k : ℕ) → 0 < behind → k < first → (k ≡ point → ⊥) → get_or bytes (at + k) 0 ≡ 48
  zero-before k some low other =
      let f = h.first_is some in
      let b = h.last_is.high in
      zero-of _ (digit k (omega (arith, f.0)) other) (f.1.before k (omega arith) low)

  zero-behind : (k : ℕ) → behind ≤ k → k < end → (k ≡ point → ⊥) → get_or bytes (at + k) 0 ≡ 48
  zero-behind k from low other = zero-of _ (digit k low other) (h.last_is.after k from low)

  first-other : 0 < behind → get_or bytes (at + first) 0 ≢ 48
  first-other some = let f = h.first_is some in counts-no_zero _ (f.1.hit f.0)

  last-other : 0 < behind → get_or bytes (at + (behind - 1)) 0 ≢ 48
  last-other some = counts-no_zero _ (h.last_is.hit some)

  -- the last that counts isn't the point
  last-apart : 0 < behind → (behind - 1 ≡ point → ⊥)
  last-apart some e = let d = counts-digit (get_or bytes (at + (behind - 1)) 0) (h.last_is.hit some) in omega (arith, d, ap (λ k. get_or bytes (at + k) 0) e, h.dot)

  pub first-apart : 0 < behind → (first ≡ point → ⊥)
  first-apart some e = let f = h.first_is some in let d = counts-digit (get_or bytes (at + first) 0) (f.1.hit f.0) in omega (arith, d, ap (λ k. get_or bytes (at + k) 0) e, h.dot)

  -- ---- in front of the point, and behind it

  whole-at : (k : ℕ) → k < point → get_or (take point (drop at bytes)) k 0 ≡ get_or bytes (at + k) 0
  whole-at k low = get_or-take point (drop at bytes) k 0 low ∙ get_or-drop at bytes k 0

  fraction-at : (k : ℕ) → k < end - point - 1 → get_or (take (end - point - 1) (drop (at + point + 1) bytes)) k 0 ≡ get_or bytes (at + (point + 1 + k)) 0
  fraction-at k low = get_or-take (end - point - 1) (drop (at + point + 1) bytes) k 0 low ∙ get_or-drop (at + point + 1) bytes k 0 ∙ ap (λ i. get_or bytes i 0) (behind_point k)

  whole-long : length (take point (drop at bytes)) ≡ point
  whole-long = let o = order in length-take-le point (drop at bytes) (omega (arith, length-drop at bytes))

  fraction-long : length (take (end - point - 1) (drop (at + point + 1) bytes)) ≡ end - point - 1
  fraction-long = let o = order in length-take-le (end - point - 1) (drop (at + point + 1) bytes) (omega (arith, length-drop (at + point + 1) bytes))

  -- the first that counts stands before the point
  pub zeros-before_point : 0 < behind → first < point → AreLeadingZeros (take point (drop at bytes)) first
  zeros-before_point some low =
      let o = order in
      zeros-up_to (take point (drop at bytes)) first (omega (arith, whole-long)) (λ k l. whole-at k (omega arith) ∙ zero-before k some l (λ e. omega arith))
      (λ e. first-other some (sym (whole-at first low) ∙ e))

  -- it stands behind the point
  pub whole-zeros : 0 < behind → point < first → AreLeadingZeros (take point (drop at bytes)) point
  whole-zeros some from = zeros-all (take point (drop at bytes)) point (sym whole-long) (λ k l. whole-at k l ∙ zero-before k some (omega arith) (λ e. omega arith))

  pub zeros-behind_point : 0 < behind → point < first → AreLeadingZeros (take (end - point - 1) (drop (at + point + 1) bytes)) (first - point - 1)
  zeros-behind_point some from =
      let o = order in
      let low = (h.first_is some).0 in
      let high = h.last_is.high in
      let here : point + 1 + (first - point - 1) ≡ first = omega arith in
      zeros-up_to (take (end - point - 1) (drop (at + point + 1) bytes)) (first - point - 1) (omega (arith, fraction-long))
      (λ k l. fraction-at k (omega arith) ∙ zero-before (point + 1 + k) some (omega arith) (λ e. omega arith))
      (λ e. first-other some (sym (fraction-at (first - point - 1) (omega arith) ∙ ap (λ i. get_or bytes (at + i) 0) here) ∙ e))

  -- none counts
  pub all-zeros : behind ≡ 0 → AreLeadingZeros (take point (drop at bytes)) point × AreLeadingZeros (take (end - point - 1) (drop (at + point + 1) bytes)) (end - point - 1)
  all-zeros none =
      let o = order in (
        zeros-all (take point (drop at bytes)) point (sym whole-long) (λ k l. whole-at k l ∙ zero-behind k (omega arith) (omega arith) (λ e. omega arith)),
        zeros-all (take (end - point - 1) (drop (at + point + 1) bytes)) (end - point - 1) (sym fraction-long) (λ k l. fraction-at k l ∙ zero-behind (point + 1 + k) (omega arith) (omega arith) (λ e. omega arith)),
      )

  -- ---- what is left without the zeros at the end

  -- from the first that counts, which stands before the point: so many are left, without the point
  pub kept-before_point : (n : ℕ) → 0 < behind → first < point → ((behind ≤ point) × (n ≡ behind - first)) ⊎ ((point < behind) × (n ≡ behind - first - 1))
      → let digits = take (point - first) (drop first (drop at bytes)) ++ take (end - point - 1) (drop (at + point + 1) bytes) in WithoutTrailingZeros digits (take n digits)
  kept-before_point n some low count =
      let o = order in
      let after = (h.first_is some).0 in
      let high = h.last_is.high in
      let front = take (point - first) (drop first (drop at bytes)) in
      let back = take (end - point - 1) (drop (at + point + 1) bytes) in
      let long : length front ≡ point - first = length-take-le (point - first) (drop first (drop at bytes)) (omega (arith, length-drop first (drop at bytes), length-drop at bytes)) in
      let front-at : (j : ℕ) → j < point - first → get_or front j 0 ≡ get_or bytes (at + (first + j)) 0 = λ j l. get_or-take (point - first) (drop first (drop at bytes)) j 0 l ∙ get_or-drop first (drop at bytes) j 0 ∙ get_or-drop at bytes (first + j) 0 in
      let left : (j : ℕ) → j < point - first → get_or (front ++ back) j 0 ≡ get_or bytes (at + (first + j)) 0 = λ j l. get_or_append_left front back 0 j (omega (arith, long)) ∙ front-at j l in
      let right : (j : ℕ) → point - first ≤ j → j < end - first - 1 → get_or (front ++ back) j 0 ≡ get_or bytes (at + (first + j + 1)) 0 = λ j from to.
      let on : length front + (j - (point - first)) ≡ j = omega (arith, long) in
      let place : point + 1 + (j - (point - first)) ≡ first + j + 1 = omega arith in
      ap (λ i. get_or (front ++ back) i 0) (sym on) ∙ get_or-append-add front back (j - (point - first)) 0 ∙ fraction-at (j - (point - first)) (omega arith) ∙ ap (λ i. get_or bytes (at + i) 0) place in
      let whole-is : length (front ++ back) ≡ end - first - 1 = omega (arith, length-append front back, long, fraction-long) in
      let some-left : n ≤ end - first - 1 = elim count [ inl c ↦ omega (arith, c.0, c.1) | inr c ↦ omega (arith, c.1) ] in
      zeros-cut (front ++ back) n
      (digits_append front back (digits-front (drop first (drop at bytes)) (point - first) (λ k l. subst IsDigit (sym (get_or-drop first (drop at bytes) k 0 ∙ get_or-drop at bytes (first + k) 0)) (digit (first + k) (omega arith) (λ e. omega arith)))) (fraction.digits))
      (omega (arith, whole-is, some-left))
      (λ j from to. elim (cases_lt j (point - first)) [
        | inl l ↦ left j l ∙ zero-behind (first + j) (elim count [ inl c ↦ omega (arith, c.1) | inr c ↦ absurd (omega (arith, c.0, c.1)) ]) (omega arith) (λ e. omega arith)
        | inr m ↦ right j m (omega (arith, whole-is)) ∙ zero-behind (first + j + 1) (elim count [ inl c ↦ omega (arith, c.0) | inr c ↦ omega (arith, c.1) ]) (omega (arith, whole-is)) (λ e. omega arith)
      ])
      (λ left-some e. elim count [
        | inl c ↦ let place : first + (n - 1) ≡ behind - 1 = omega (arith, c.1) in last-other some (sym (left (n - 1) (omega (arith, c.0, c.1)) ∙ ap (λ i. get_or bytes (at + i) 0) place) ∙ e)
        | inr c ↦
            let apart : point + 1 < behind = elim (cases_eq (behind - 1) point) [ inl same ↦ absurd (last-apart some same) | inr other ↦ omega (arith, c.0) ] in
            let place : first + (n - 1) + 1 ≡ behind - 1 = omega (arith, c.1) in
            last-other some (sym (right (n - 1) (omega (arith, c.1)) (omega (arith, c.1)) ∙ ap (λ i. get_or bytes (at + i) 0) place) ∙ e)
      ])

  -- from the first that counts, which stands behind the point
  pub kept-behind_point : (n : ℕ) → 0 < behind → point < first → n ≡ behind - first
      → let digits = take (end - point - 1 - (first - point - 1)) (drop (first - point - 1) (drop (at + point + 1) bytes)) in WithoutTrailingZeros digits (take n digits)
  kept-behind_point n some from count =
      let o = order in
      let after = (h.first_is some).0 in
      let high = h.last_is.high in
      let decimals = drop (at + point + 1) bytes in
      let zeros = first - point - 1 in
      let size = end - point - 1 - (first - point - 1) in
      let digits = take size (drop zeros decimals) in
      let place : (j : ℕ) → at + point + 1 + (zeros + j) ≡ at + (first + j) = λ j. omega arith in
      let inner : (j : ℕ) → get_or (drop zeros decimals) j 0 ≡ get_or bytes (at + (first + j)) 0 = λ j. get_or-drop zeros decimals j 0 ∙ get_or-drop (at + point + 1) bytes (zeros + j) 0 ∙ ap (λ i. get_or bytes i 0) (place j) in
      let is : (j : ℕ) → j < size → get_or digits j 0 ≡ get_or bytes (at + (first + j)) 0 = λ j l. get_or-take size (drop zeros decimals) j 0 l ∙ inner j in
      let long : length digits ≡ size = length-take-le size (drop zeros decimals) (omega (arith, length-drop zeros decimals, length-drop (at + point + 1) bytes)) in
      zeros-cut digits n
      (digits-front (drop zeros decimals) size (λ k l. subst IsDigit (sym (inner k)) (digit (first + k) (omega arith) (λ e. omega arith))))
      (omega (arith, long))
      (λ j l r. is j (omega (arith, long)) ∙ zero-behind (first + j) (omega arith) (omega (arith, long)) (λ e. omega arith))
      (λ left-some e. let back : first + (n - 1) ≡ behind - 1 = omega arith in last-other some (sym (is (n - 1) (omega arith) ∙ ap (λ i. get_or bytes (at + i) 0) back) ∙ e))

  -- ---- and these are the digits that are written

  row-is : (n : ℕ) → at + first < length bytes → 0 < n → take n (drop (at + first) bytes) ≡ get_or bytes (at + first) 0 ∷ take (n - 1) (drop (at + first + 1) bytes)
  row-is n room some = taken n (drop (at + first) bytes) (get_or bytes (at + first) 0) (drop (at + first + 1) bytes) some (drop_more bytes (at + first) 0 room)

  pub spelled-before_point : (n : ℕ) → 0 < behind → first < point → ((behind ≤ point) × (n ≡ behind - first)) ⊎ ((point < behind) × (n ≡ behind - first - 1))
      → take n (take (point - first) (drop first (drop at bytes)) ++ take (end - point - 1) (drop (at + point + 1) bytes)) ≡ get_or bytes (at + first) 0 ∷ further_digits bytes at point first behind
  spelled-before_point n some low count =
      let o = order in
      let after = (h.first_is some).0 in
      let high = h.last_is.high in
      let d = get_or bytes (at + first) 0 in
      let rest = drop (at + first + 1) bytes in
      let decimals = drop (at + point + 1) bytes in
      let front = take (point - first) (drop first (drop at bytes)) in
      let back = take (end - point - 1) decimals in
      let long : length front ≡ point - first = length-take-le (point - first) (drop first (drop at bytes)) (omega (arith, length-drop first (drop at bytes), length-drop at bytes)) in
      let there : drop first (drop at bytes) ≡ drop (at + first) bytes = drop-drop first at bytes in
      elim count [
        | inl c ↦
            let tests = ap₂ (λ (s t : Bool). if s && t then take (point - first - 1) rest ++ take (behind - point - 1) decimals else take (behind - first - 1) rest) (lt-ltb first point low) (le-ltb point behind c.0) in
            take-append-le n front back (omega (arith, long, c.0, c.1)) ∙ take-take n (point - first) (drop first (drop at bytes)) (omega (arith, c.0, c.1)) ∙ ap (take n) there
            ∙ row-is n (omega arith) (omega (arith, c.1)) ∙ ap (λ (k : ℕ). d ∷ take (k - 1) rest) c.1 ∙ ap (λ (l : List ℕ). d ∷ l) (sym tests)
        | inr c ↦
            let tests = ap₂ (λ (s t : Bool). if s && t then take (point - first - 1) rest ++ take (behind - point - 1) decimals else take (behind - first - 1) rest) (lt-ltb first point low) (lt-ltb point behind c.0) in
            let parts : n ≡ length front + (behind - point - 1) = omega (arith, long, c.0, c.1) in
            ap (λ (k : ℕ). take k (front ++ back)) parts ∙ take-append-add front back (behind - point - 1)
            ∙ ap₂ (λ (x y : List ℕ). x ++ y) (ap (take (point - first)) there ∙ row-is (point - first) (omega arith) (omega arith)) (take-take (behind - point - 1) (end - point - 1) decimals (omega (arith, c.0)))
            ∙ ap (λ (l : List ℕ). d ∷ l) (sym tests)
      ]

  pub spelled-behind_point : (n : ℕ) → 0 < behind → point < first → n ≡ behind - first
      → take n (take (end - point - 1 - (first - point - 1)) (drop (first - point - 1) (drop (at + point + 1) bytes))) ≡ get_or bytes (at + first) 0 ∷ further_digits bytes at point first behind
  spelled-behind_point n some from count =
      let o = order in
      let after = (h.first_is some).0 in
      let high = h.last_is.high in
      let d = get_or bytes (at + first) 0 in
      let rest = drop (at + first + 1) bytes in
      let decimals = drop (at + point + 1) bytes in
      let place : at + point + 1 + (first - point - 1) ≡ at + first = omega arith in
      let there : drop (first - point - 1) decimals ≡ drop (at + first) bytes = drop-drop (first - point - 1) (at + point + 1) bytes ∙ ap (λ (k : ℕ). drop k bytes) place in
      let test = ap (λ (s : Bool). if s && ltb point behind then take (point - first - 1) rest ++ take (behind - point - 1) decimals else take (behind - first - 1) rest) (le-ltb first point (omega arith)) in
      take-take n (end - point - 1 - (first - point - 1)) (drop (first - point - 1) decimals) (omega (arith, count)) ∙ ap (take n) there
      ∙ row-is n (omega arith) (omega (arith, count)) ∙ ap (λ (k : ℕ). d ∷ take (k - 1) rest) count ∙ ap (λ (l : List ℕ). d ∷ l) (sym test)
