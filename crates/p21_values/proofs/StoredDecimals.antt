-- Decimals as they are stored: known by their value, and near to its spelling.
use Rattle.std.proofs.Common.{◌≡◌, ℕ, zero, suc, ◌+◌, ◌-◌, ◌*◌, ◌^◌, ◌%◌, ◌<◌, Bool, true, false, cond, List, [], ◌∷◌, ◌++◌, length, Result, Ok, ℤ, pos, negsuc, ◌+ℤ◌, ◌-ℤ◌, ◌*ℤ◌, ◌≤ℤ◌, ◌<ℤ◌, nat_abs, nat_eq, refl, ap, sym, ◌∙◌, subst, arith}
use Rattle.std.proofs.lemmas.Bool.Decides.{Decides-eqb, Decides-int_eq}
use Rattle.std.proofs.lemmas.Int.{ints}
use Rattle.std.proofs.lemmas.List.{append-nil, append_assoc}
use Rattle.std.proofs.lemmas.Slice.Eq.{slice_eq-Decides}
use Rattle.std.proofs.Math.Nat.{one-le-pow, zero-mul}
use Rattle.std.specs.Bool.{Decides}
use Rattle.std.specs.Cmp.Lexicographic.{pointwise}
use Rattle.std.specs.Ordering.{int_eq}
use Rattle.std.proofs.lemmas.Bool.{and_parts}
use mathlib.Core.Bool.{beq, not}
use borrow.Author.Differences.{up, down}
use Rattle.p21_spec_basics.specs.Digits.{AllDigits, number, plain_digits}
use Rattle.p21_spec_exchange.specs.Number.{Decimal, HasNormalisedExponent, IsExponentInRange, IsInRange, IsReduced, Ratio, SameRatio, ratio_of, scaled, signed, whole_ratio}
use Rattle.p21_spec_exchange.specs.Spelling.{exponent_spelling, minus_bytes, normalised_exponent, digits_with_point, real_spelling}
use Rattle.p21_spec_exchange.proofs.Exponents.{exponent_of_same, has_exponent, in_range_by, in_range_of_same, zero_has_no_exponent}
use Rattle.p21_spec_basics.proofs.PlainDigits.{plain_high, plain_low}
use Rattle.p21_spec_exchange.proofs.Ratios.{ratio-positive, same_scaled, same_zero}
use Rattle.p21_spec_exchange.proofs.ReducedDecimals.{reduced_once, same_decimal}
use Rattle.p21_spec_exchange.proofs.SignedNumbers.{abs_signed, signed-times, signed-zero, signed_once}
use Rattle.p21_values.specs.Decimal.{IsDecimal, ReducesRatio, decimal_eq}
use Rattle.p21_values.specs.RealComponents.{digits_ratio}
use Rattle.p21_values.specs.Stored.{IsStoredDecimal, significand_spelling, stored_decimal}
use Rattle.p21_values.specs.declared.fault.ValueFault.{ValueFault}
use Rattle.p21_scan.specs.Digits.{HasNoLeadingZero, WithoutTrailingZeros, WithoutLeadingZeros}
use Rattle.p21_values.proofs.Significands.{kept_digits, kept_first}
use Rattle.p21_values.proofs.SignificantDigits.{significant_once, significant_plain, significant_positive, significant_spelling}

-- ---- what is stored is a reduced number in range

-- the exponent that is stored is the normalised one
stored_exponent : (n : Bool) (ds : List ℕ) (k : ℤ) → AllDigits ds → HasNoLeadingZero ds → 0 < length ds → HasNormalisedExponent (ratio_of (stored_decimal n ds k)) k
stored_exponent n ds k digits first some =
    let plain = significant_plain ds digits first some in
    let positive = significant_positive ds digits first some in
    let last = k -ℤ pos (length ds - 1) in
    has_exponent n (number ds) (length ds - 1) (up last) (down last) k (plain_low ds plain positive) (plain_high ds plain) (omega (arith, ints))

stored_in_range : (n : Bool) (ds : List ℕ) (k : ℤ) → IsStoredDecimal n ds k → IsInRange (ratio_of (stored_decimal n ds k))
stored_in_range n [] k s = λ j h. absurd (zero_has_no_exponent (signed n 0) _ _ j (signed-zero n) h)
stored_in_range n (d ∷ ds) k s =
    in_range_by (ratio_of (stored_decimal n (d ∷ ds) k)) k (ratio-positive (stored_decimal n (d ∷ ds) k)) (stored_exponent n (d ∷ ds) k s.are_digits s.first (omega arith)) s.in_range

stored_reduced : (n : Bool) (ds : List ℕ) (k : ℤ) → IsStoredDecimal n ds k → IsReduced (stored_decimal n ds k)
stored_reduced n ds k s multiple =
    let empty = s.last (ap (λ (m : ℕ). m % 10) (sym (abs_signed n (number ds))) ∙ multiple) in
    let no_digits : length ds ≡ 0 = ap length empty in
    (ap (λ (xs : List ℕ). signed n (number xs)) empty ∙ signed-zero n, omega (arith, ints, s.zero empty, no_digits))

pub stored_is_decimal : (n : Bool) (ds : List ℕ) (k : ℤ) → IsStoredDecimal n ds k → IsDecimal (stored_decimal n ds k)
stored_is_decimal n ds k s = record { reduced = stored_reduced n ds k s; in_range = stored_in_range n ds k s }

-- ---- the canonical spelling

minus_is : (n : Bool) (m : ℕ) → (n ≡ true → 0 < m) → minus_bytes (signed n m) ≡ cond n (45 ∷ []) []
minus_is false m h = refl
minus_is true zero h = absurd (omega (arith, h refl))
minus_is true (suc m) h = refl

minus_positive : (n : Bool) (ds : List ℕ) (k : ℤ) → IsStoredDecimal n ds k → n ≡ true → 0 < number ds
minus_positive n ds k s e = significant_positive ds s.are_digits s.first (s.minus e)

joined : (a x b y c z : List ℕ) → a ≡ x → b ≡ y → c ≡ z → a ++ (b ++ c) ≡ (x ++ y) ++ z
joined a x b y c z p q r = rw (p, q, r) (sym (append_assoc x y z))

digits_back : (n : Bool) (ds : List ℕ) → AllDigits ds → HasNoLeadingZero ds → 0 < length ds → plain_digits (nat_abs (signed n (number ds))) ≡ ds
digits_back n ds digits first some = ap plain_digits (abs_signed n (number ds)) ∙ significant_spelling ds digits first some

pub stored_spelling : (n : Bool) (ds : List ℕ) (k : ℤ) → IsStoredDecimal n ds k → real_spelling (stored_decimal n ds k) ≡ (cond n (45 ∷ []) [] ++ significand_spelling ds) ++ exponent_spelling k
stored_spelling true [] k s = absurd (omega (arith, s.minus refl))
stored_spelling false [] k s =
    let exponents : normalised_exponent (stored_decimal false [] k) ≡ k = omega (arith, ints) in
    ap (λ (z : ℤ). 48 ∷ 46 ∷ exponent_spelling z) exponents
stored_spelling n (d ∷ ds) k s =
    let back = digits_back n (d ∷ ds) s.are_digits s.first (omega arith) in
    let exponents : normalised_exponent (stored_decimal n (d ∷ ds) k) ≡ k = omega (arith, ints, ap length back) in
    joined _ _ _ _ _ _ (minus_is n (number (d ∷ ds)) (minus_positive n (d ∷ ds) k s)) (ap digits_with_point back) (ap exponent_spelling exponents)

-- ---- equality

pub stored_once : (n m : Bool) (ds es : List ℕ) (k l : ℤ) → IsStoredDecimal n ds k → IsStoredDecimal m es l → stored_decimal n ds k ≡ stored_decimal m es l → (n ≡ m) × (ds ≡ es) × (k ≡ l)
stored_once n m ds es k l s t e =
    let significands : signed n (number ds) ≡ signed m (number es) = ap (λ (d : Decimal). d.significand) e in
    let exponents : k -ℤ pos (length ds - 1) ≡ l -ℤ pos (length es - 1) = ap (λ (d : Decimal). d.exponent) e in
    let parts = signed_once n m (number ds) (number es) (minus_positive n ds k s) (minus_positive m es l t) significands in
    let digits = significant_once ds es s.are_digits s.first t.are_digits t.first parts.1 in
    (parts.0, digits, omega (arith, ints, exponents, ap length digits))

-- what decides the sameness of the parts decides that of the values
pub stored_decides : (n m : Bool) (ds es : List ℕ) (k l : ℤ) → IsStoredDecimal n ds k → IsStoredDecimal m es l → (x y : Decimal) → stored_decimal n ds k ≡ x → stored_decimal m es l ≡ y → (r : Bool) → Decides r ((n ≡ m) × (ds ≡ es) × (k ≡ l)) → Decides r (x ≡ y)
stored_decides n m ds es k l s t x y e f r h = (
  λ yes. let p = h.0 yes in sym e ∙ rw (p.0, p.1, p.2) f,
  λ same. h.1 (stored_once n m ds es k l s t (e ∙ same ∙ sym f)),
)

-- equal values are those of equal ratios
pub ratio_decides : (n m : Bool) (ds es : List ℕ) (k l : ℤ) → IsStoredDecimal n ds k → IsStoredDecimal m es l → (x y : Decimal) → stored_decimal n ds k ≡ x → stored_decimal m es l ≡ y → (r : Bool) → Decides r (x ≡ y) → Decides r (SameRatio (ratio_of x) (ratio_of y))
ratio_decides n m ds es k l s t x y e f r h = (
  λ yes. subst (λ (d : Decimal). SameRatio (ratio_of x) (ratio_of d)) (h.0 yes) refl,
  λ same. h.1 (reduced_once x y (subst IsReduced e (stored_reduced n ds k s)) (subst IsReduced f (stored_reduced m es l t)) same),
)

pub decimal_eq_decides : (x y : Decimal) → Decides (decimal_eq x y) (x ≡ y)
decimal_eq_decides x y =
    let m = Decides-int_eq x.significand y.significand in
    let k = Decides-int_eq x.exponent y.exponent in (
      λ yes. let p = and_parts (int_eq x.significand y.significand) (int_eq x.exponent y.exponent) yes in same_decimal _ _ _ _ (m.0 p.0) (k.0 p.1),
      λ same. rw (m.1 (ap (λ (d : Decimal). d.significand) same), k.1 (ap (λ (d : Decimal). d.exponent) same)),
    )

differ : (a b : Bool) → not (beq a b) ≡ true → a ≡ b → ⊥
differ false false e s = cc
differ false true e s = cc
differ true false e s = cc
differ true true e s = cc

alike : (a b : Bool) → not (beq a b) ≡ false → a ≡ b
alike false false e = refl
alike false true e = cc
alike true false e = cc
alike true true e = refl

pub other_sign : (n m : Bool) (P Q : Type 0) → not (beq n m) ≡ true → Decides false ((n ≡ m) × P × Q)
other_sign n m P Q e = (λ yes. cc, λ same. absurd (differ n m e same.0))

pub other_exponent : (k l : ℤ) (P Q : Type 0) → (k ≡ l → ⊥) → Decides false (P × Q × (k ≡ l))
other_exponent k l P Q e = (λ yes. cc, λ same. absurd (e same.2))

pub same_digits : (n m : Bool) (ds es : List ℕ) (k l : ℤ) → not (beq n m) ≡ false → k ≡ l → (r : Bool) → r ≡ pointwise nat_eq ds es → Decides r ((n ≡ m) × (ds ≡ es) × (k ≡ l))
same_digits n m ds es k l e f r h =
    let lists = slice_eq-Decides Decides-eqb ds es r h in (λ yes. (alike n m e, lists.0 yes, f), λ same. lists.1 same.1)

-- ---- what of_digits answers

-- the digits without zeros in front, `t` more of them than those that are stored
same_ratio : (n : Bool) (all ds : List ℕ) (t p : ℕ) (written k : ℤ) → number all ≡ number ds * 10 ^ t → 0 < length ds → k ≡ written +ℤ pos (length ds + t - 1) -ℤ pos p → SameRatio (scaled (signed n (number all)) (up written) (p + down written)) (ratio_of (stored_decimal n ds k))
same_ratio n all ds t p written k numbers some exponents =
    let last = k -ℤ pos (length ds - 1) in
    same_scaled n (number all) (number ds) t (up written) (p + down written) (up last) (down last) numbers (omega (arith, ints, exponents))

pub reads_zero : (n : Bool) (whole fraction : List ℕ) (written : ℤ) → number (whole ++ fraction) ≡ 0 → ReducesRatio (digits_ratio n whole fraction written) (Ok (stored_decimal false [] (pos 0)))
reads_zero n whole fraction written none_left =
    let is_zero : signed n (number (whole ++ fraction)) ≡ pos 0 = ap (signed n) none_left ∙ signed-zero n in (
      λ multiple. (refl, omega (arith, ints)),
      λ k h. absurd (zero_has_no_exponent _ _ _ k is_zero h),
      subst (λ (z : ℤ). SameRatio (scaled z (up written) (length fraction + down written)) (ratio_of (stored_decimal false [] (pos 0)))) (sym is_zero) (same_zero (up written) (length fraction + down written) 0 0),
    )

reads_stored : (n : Bool) (whole fraction ds : List ℕ) (t : ℕ) (written k : ℤ) → IsStoredDecimal n ds k → 0 < length ds → number (whole ++ fraction) ≡ number ds * 10 ^ t → k ≡ written +ℤ pos (length ds + t - 1) -ℤ pos (length fraction) → ReducesRatio (digits_ratio n whole fraction written) (Ok (stored_decimal n ds k))
reads_stored n whole fraction ds t written k s some numbers exponents =
    let value = stored_decimal n ds k in
    let ratio = digits_ratio n whole fraction written in
    let same = same_ratio n (whole ++ fraction) ds t (length fraction) written k numbers some exponents in
    (stored_reduced n ds k s, in_range_of_same (ratio_of value) ratio (ratio-positive value) (one-le-pow (length fraction + down written) 10 (omega arith)) (sym same) (stored_in_range n ds k s), same)

pub reads_far : (n : Bool) (whole fraction ds : List ℕ) (written k : ℤ) → AllDigits ds → HasNoLeadingZero ds → 0 < length ds → number (whole ++ fraction) ≡ number ds → k ≡ written +ℤ pos (length ds - 1) -ℤ pos (length fraction) → (IsExponentInRange k → ⊥) → IsInRange (digits_ratio n whole fraction written) → ⊥
reads_far n whole fraction ds written k digits first some numbers exponents far in_range =
    let value = stored_decimal n ds k in
    let ratio = digits_ratio n whole fraction written in
    let same = same_ratio n (whole ++ fraction) ds 0 (length fraction) written k (omega (arith, numbers)) some (omega (arith, ints, exponents)) in
    far (in_range k (exponent_of_same (ratio_of value) ratio k (ratio-positive value) (one-le-pow (length fraction + down written) 10 (omega arith)) (sym same) (stored_exponent n ds k digits first some)))

kept_some : (all front ds : List ℕ) → WithoutLeadingZeros all front → 0 < length front → WithoutTrailingZeros front ds → 0 < length ds
kept_some all front [] f some e = absurd (omega (arith, significant_positive front f.are_digits f.first some, e.same, zero-mul (10 ^ (length front - 0))))
kept_some all front (d ∷ ds) f some e = omega arith

pub stored_of_digits : (n : Bool) (all front ds : List ℕ) (k : ℤ) → WithoutLeadingZeros all front → 0 < length front → WithoutTrailingZeros front ds → IsExponentInRange k → IsStoredDecimal n ds k
stored_of_digits n all front ds k f some e near =
    let kept = kept_some all front ds f some e in
    record {
      are_digits = kept_digits front ds e f.are_digits;
      first = kept_first front ds e f.first;
      last = e.last;
      minus = λ _. kept;
      zero = λ empty. absurd (omega (arith, kept, ap length empty));
      in_range = near;
    }

pub reads_digits : (n : Bool) (whole fraction front ds : List ℕ) (written k : ℤ) → WithoutLeadingZeros (whole ++ fraction) front → 0 < length front → WithoutTrailingZeros front ds → k ≡ written +ℤ pos (length front - 1) -ℤ pos (length fraction) → IsExponentInRange k → ReducesRatio (digits_ratio n whole fraction written) (Ok (stored_decimal n ds k))
reads_digits n whole fraction front ds written k f some e exponents near =
    reads_stored n whole fraction ds (length front - length ds) written k (stored_of_digits n (whole ++ fraction) front ds k f some e near) (kept_some (whole ++ fraction) front ds f some e) (sym f.same ∙ e.same) (omega (arith, ints, exponents, e.shorter))

-- a whole number as the ratio of its digits
digits_of_whole : (n : Bool) (ds : List ℕ) → digits_ratio n ds [] (pos 0) ≡ whole_ratio (signed n (number ds))
digits_of_whole n ds =
    let once : signed n (number ds) *ℤ pos 1 ≡ signed n (number ds) = signed-times n (number ds) 1 ∙ ap (signed n) (omega arith) in
    rw append-nil (ap (λ (z : ℤ). let r : Ratio = record { numerator = z; denominator = 1 } in r) once)

pub reads_whole : (n : Bool) (ds : List ℕ) (z : ℤ) (r : Result Decimal ValueFault) → signed n (number ds) ≡ z → ReducesRatio (digits_ratio n ds [] (pos 0)) r → ReducesRatio (whole_ratio z) r
reads_whole n ds z r e h = subst (λ (x : Ratio). ReducesRatio x r) (digits_of_whole n ds ∙ ap whole_ratio e) h

-- ---- the exponent that is written

exponent_digits : (ds : List ℕ) (m : ℕ) → AllDigits ds → HasNoLeadingZero ds → number ds ≡ suc m → plain_digits (suc m) ≡ ds
exponent_digits [] m digits first e = absurd (omega (arith, e))
exponent_digits (d ∷ ds) m digits first e = ap plain_digits (sym e) ∙ significant_spelling (d ∷ ds) digits first (omega arith)

written_digits : (z : ℤ) (ds : List ℕ) → AllDigits ds → HasNoLeadingZero ds → number ds ≡ nat_abs z → (z ≡ pos 0 → ⊥) → exponent_spelling z ≡ 69 ∷ (minus_bytes z ++ ds)
written_digits (pos zero) ds digits first e other = absurd (other refl)
written_digits (pos (suc m)) ds digits first e other = ap (λ (xs : List ℕ). 69 ∷ xs) (exponent_digits ds m digits first e)
written_digits (negsuc m) ds digits first e other = ap (λ (xs : List ℕ). 69 ∷ 45 ∷ xs) (exponent_digits ds m digits first e)

pub positive_exponent : (z : ℤ) (all ds : List ℕ) → WithoutLeadingZeros all ds → number all ≡ nat_abs z → (z ≡ pos 0 → ⊥) → pos 0 ≤ℤ z → exponent_spelling z ≡ 69 ∷ ds
positive_exponent (pos m) all ds f e other sign = written_digits (pos m) ds f.are_digits f.first (f.same ∙ e) other
positive_exponent (negsuc m) all ds f e other sign = absurd (omega (arith, ints, sign))

pub negative_exponent : (z : ℤ) (all ds : List ℕ) → WithoutLeadingZeros all ds → number all ≡ nat_abs z → (z ≡ pos 0 → ⊥) → z <ℤ pos 0 → exponent_spelling z ≡ 69 ∷ 45 ∷ ds
negative_exponent (pos m) all ds f e other sign = absurd (omega (arith, ints, sign))
negative_exponent (negsuc m) all ds f e other sign = written_digits (negsuc m) ds f.are_digits f.first (f.same ∙ e) other
