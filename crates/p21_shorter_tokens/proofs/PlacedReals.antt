-- The number that is written of a real whose parts stand at known places.
use Rattle.std.proofs.Common.{◌≡◌, ℕ, ◌+◌, ◌-◌, ◌<◌, ◌≤◌, ℤ, pos, ◌+ℤ◌, ◌-ℤ◌, Bool, true, false, inl, inr, List, [], ◌∷◌, ◌++◌, take, drop, get_or, if◌then◌else◌, refl, ap, sym, subst, ◌∙◌, arith, append-nil}
use Rattle.std.proofs.lemmas.Bool.{cases_lt}
use Rattle.p21_spec_basics.proofs.Members.{rest_is}
use Rattle.p21_spec_exchange.specs.Spelling.{exponent_spelling}
use Rattle.p21_shorter_tokens.specs.Places.{HasPlaces}
use Rattle.p21_scan.specs.Digits.{WithoutTrailingZeros}
use Rattle.p21_shorter_tokens.proofs.LanePlaces.{all-zeros, first-apart, fraction, kept-before_point, kept-behind_point, spelled-before_point, spelled-behind_point, whole, whole-zeros, zeros-before_point, zeros-behind_point}
use Rattle.p21_shorter_tokens.proofs.RealTokens.{with_fraction, with_whole, with_zeros}
use Rattle.p21_shorter_tokens.specs.Appending.{AppendsAllOrNone}
use Rattle.p21_shorter_tokens.specs.Numbers.{AppendsNormalised, AppendsNumber, signed_significand}
use Rattle.p21_shorter_tokens.specs.Runs.{AreDigits}
use Rattle.p21_shorter_tokens.specs.Significands.{AppendsSignificand, further_digits, placed_ratio, significand}

normalised : (r negative : Bool) (digits kept : List ℕ) (d : ℕ) (further : List ℕ) (k : ℤ) (old new : List ℕ) → WithoutTrailingZeros digits kept → kept ≡ d ∷ further
    → AppendsSignificand r ((if negative then 45 ∷ [] else []) ++ d ∷ 46 ∷ further) k old new → AppendsNormalised r negative digits k old new
normalised true negative digits kept d further k old new zeros is h = (kept, zeros, h.0, h.1 ∙ ap (λ (l : List ℕ). old ++ (signed_significand negative l ++ exponent_spelling k)) (sym is))
normalised false negative digits kept d further k old new zeros is h = h

module _ (negative : Bool) (bytes : List ℕ) (at point end first behind : ℕ) (h : HasPlaces bytes at point end first behind) (written : ℤ) (old new : List ℕ) where
  front : AreDigits (drop at bytes) point
  front = let w = whole bytes at point end first behind h in record { within = w.within; digits = w.digits }

  back : AreDigits (drop (at + point + 1) bytes) (end - point - 1)
  back = let f = fraction bytes at point end first behind h in record { within = f.within; digits = f.digits }

  pub placed-zeros : (t : Bool) → behind ≡ 0 → AppendsAllOrNone t (48 ∷ 46 ∷ []) old new → AppendsNumber t (placed_ratio negative bytes at point end written) old new
  placed-zeros t none is =
      let z = all-zeros bytes at point end first behind h none in
      with_zeros negative (drop at bytes) (drop (at + point + 1) bytes) point (end - point - 1) point written (pos 0) old new true front back z.0 (end - point - 1) (omega arith) z.1 t (omega arith) is

  module _ (r : Bool) (k : ℤ) (some : 0 < behind) (is : AppendsSignificand r (significand negative bytes at point first behind) k old new) where
    -- the first that counts stands before the point
    pub placed-before_point : first < point → k ≡ written +ℤ pos (point - first - 1) → AppendsNumber r (placed_ratio negative bytes at point end written) old new
    placed-before_point low e =
        let digits : List ℕ = take (point - first) (drop first (drop at bytes)) ++ take (end - point - 1) (drop (at + point + 1) bytes) in
        with_whole negative (drop at bytes) (drop (at + point + 1) bytes) point (end - point - 1) first written k old new r front back (zeros-before_point bytes at point end first behind h some low)
        (drop first (drop at bytes)) (sym (rest_is (drop at bytes) first)) low e
        (elim (cases_lt point behind) [
          | inl over ↦
              normalised r negative digits (take (behind - first - 1) digits) (get_or bytes (at + first) 0) (further_digits bytes at point first behind) k old new
              (kept-before_point bytes at point end first behind h (behind - first - 1) some low (inr (over, refl))) (spelled-before_point bytes at point end first behind h (behind - first - 1) some low (inr (over, refl))) is
          | inr up_to ↦
              normalised r negative digits (take (behind - first) digits) (get_or bytes (at + first) 0) (further_digits bytes at point first behind) k old new
              (kept-before_point bytes at point end first behind h (behind - first) some low (inl (up_to, refl))) (spelled-before_point bytes at point end first behind h (behind - first) some low (inl (up_to, refl))) is
        ])

    -- it stands behind the point
    pub placed-behind_point : point ≤ first → k ≡ written -ℤ pos (first - point) → AppendsNumber r (placed_ratio negative bytes at point end written) old new
    placed-behind_point from e =
        let apart = first-apart bytes at point end first behind h some in
        let over : point < first = elim (cases_lt point first) [ inl l ↦ l | inr m ↦ absurd (apart (omega arith)) ] in
        let f : List ℕ = drop (at + point + 1) bytes in
        let zeros = first - point - 1 in
        let size = end - point - 1 - zeros in
        let digits : List ℕ = take size (drop zeros f) in
        let more : first - point ≡ zeros + 1 = omega arith in
        let high = h.last_is.high in
        let low = (h.first_is some).0 in
        with_fraction negative (drop at bytes) f point (end - point - 1) point written k old new r front back (whole-zeros bytes at point end first behind h some over) zeros (omega arith) (zeros-behind_point bytes at point end first behind h some over)
        (drop zeros f) (sym (rest_is f zeros)) (omega arith) (e ∙ ap (λ (n : ℕ). written -ℤ pos n) more)
        (subst (λ (l : List ℕ). AppendsNormalised r negative l k old new) (sym (append-nil digits))
        (normalised r negative digits (take (behind - first) digits) (get_or bytes (at + first) 0) (further_digits bytes at point first behind) k old new
        (kept-behind_point bytes at point end first behind h (behind - first) some over refl) (spelled-behind_point bytes at point end first behind h (behind - first) some over refl) is))
