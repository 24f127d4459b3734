-- Zeros at the front, and none at the end.
use Rattle.std.proofs.Common.{◌≡◌, ◌≢◌, ℕ, zero, suc, ◌+◌, ◌-◌, ◌*◌, ◌^◌, ◌<◌, ◌≤◌, List, [], ◌∷◌, ◌++◌, length, take, drop, get_or, replicate, refl, ap, ap₂, sym, subst, ◌∙◌, arith, add-one, length-drop, length-take-le}
use Rattle.std.proofs.lemmas.List.{drop-take, take_more, take-take}
use Rattle.p21_spec_basics.specs.Digits.{AllDigits, number}
use Rattle.p21_scan.proofs.DigitRuns.{no_end_zero}
use Rattle.p21_scan.specs.Digits.{HasNoLeadingZero, WithoutTrailingZeros}
use Rattle.p21_shorter_tokens.specs.Runs.{AreLeadingZeros}

one_zero_more : (n : ℕ) → (let zeros : List ℕ = replicate n 48 in zeros ++ 48 ∷ []) ≡ replicate (suc n) 48
one_zero_more zero = refl
one_zero_more (suc n) = ap (λ (x : List ℕ). 48 ∷ x) (one_zero_more n)

pub zeros_more : (bytes : List ℕ) (i : ℕ) → i < length bytes → take i bytes ≡ replicate i 48 → get_or bytes i 0 ≡ 48 → take (i + 1) bytes ≡ replicate (i + 1) 48
zeros_more bytes i room h e = take_more bytes i 0 room ∙ (ap₂ (λ (x : List ℕ) (b : ℕ). x ++ b ∷ []) h e ∙ (one_zero_more i ∙ ap (λ (n : ℕ). replicate n 48) (sym (add-one i))))

no_zero_behind : (bytes : List ℕ) (n : ℕ) → (n < length bytes → get_or bytes n 0 ≢ 48) → HasNoLeadingZero (drop n bytes)
no_zero_behind [] zero h = tt
no_zero_behind [] (suc n) h = tt
no_zero_behind (b ∷ bytes) zero h = h (omega arith)
no_zero_behind (b ∷ bytes) (suc n) h = no_zero_behind bytes n (λ l. h (omega arith))

-- up to a byte that is none
pub zeros_ended : (bytes : List ℕ) (i : ℕ) → i < length bytes → take i bytes ≡ replicate i 48 → get_or bytes i 0 ≢ 48 → AreLeadingZeros bytes i
zeros_ended bytes i room h other = record { within = omega arith; zeros = h; first = no_zero_behind bytes i (λ _. other) }

-- all of the bytes
pub zeros_whole : (bytes : List ℕ) → take (length bytes) bytes ≡ replicate (length bytes) 48 → AreLeadingZeros bytes (length bytes)
zeros_whole bytes h = record { within = omega arith; zeros = h; first = no_zero_behind bytes (length bytes) (λ l. absurd (omega arith)) }

-- ---- zeros at the end

-- what is kept doesn't end with a zero
pub end_cut : (digits : List ℕ) (kept : ℕ) → AllDigits digits → kept ≤ length digits → number digits ≡ number (take kept digits) * 10 ^ (length digits - kept) → (0 < kept → get_or digits (kept - 1) 0 ≢ 48) → WithoutTrailingZeros digits (take kept digits)
end_cut digits kept are within same last =
    let short = length-take-le kept digits within in
    record { front = ap (λ (k : ℕ). take k digits) (sym short); shorter = omega (arith, short); last = no_end_zero digits kept are within last; same = rw short same }

-- a text of so many of these bytes, from a place on
module _ (room text : List ℕ) (from used : ℕ) (is : take used room ≡ text) (fits : used ≤ length room) (within : from ≤ length text) where
  start : from ≤ used
  start = omega (arith, ap (λ (x : List ℕ). length x) is, length-take-le used room fits)

  pub text-behind : drop from text ≡ take (used - from) (drop from room)
  text-behind =
      let s = start in
      let whole : from + (used - from) ≡ used = omega arith in
      ap (λ (x : List ℕ). drop from x) (sym is) ∙ (ap (λ (n : ℕ). drop from (take n room)) (sym whole) ∙ drop-take from (used - from) room)

  module _ (kept : ℕ) (fewer : kept ≤ length (take (used - from) (drop from room))) where
    few : kept ≤ used - from
    few = let s = start in omega (arith, length-take-le (used - from) (drop from room) (omega (arith, length-drop from room)))

    pub cut-front : take from (take (from + kept) room) ≡ take from text
    cut-front = take-take from (from + kept) room (omega arith) ∙ (sym (take-take from used room start) ∙ ap (λ (x : List ℕ). take from x) is)

    pub cut-behind : drop from (take (from + kept) room) ≡ take kept (take (used - from) (drop from room))
    cut-behind = drop-take from kept room ∙ sym (take-take kept (used - from) (drop from room) few)

-- what is kept are so many of the digits
pub kept-front : (digits kept : List ℕ) → WithoutTrailingZeros digits kept → WithoutTrailingZeros digits (take (length kept) digits)
kept-front digits kept h = subst (λ (x : List ℕ). WithoutTrailingZeros digits x) h.front h
