-- Reals and their spellings: one value for each spelling, and one canonical spelling for each value.
use Rattle.std.proofs.Common.{◌≡◌, ◌↔◌, ℕ, zero, suc, ◌+◌, ◌-◌, ◌<◌, ◌%◌, List, [], ◌∷◌, ◌++◌, length, ℤ, pos, negsuc, ◌+ℤ◌, nat_abs, refl, ap, sym, subst, ◌∙◌, arith, inl, inr}
use Rattle.std.proofs.lemmas.Bool.{cases_eq}
use Rattle.std.proofs.lemmas.Int.{ints}
use Rattle.std.proofs.Math.Nat.{one-le-pow}
use borrow.Author.Differences.{up, down}
use Rattle.p21_spec_basics.specs.Digits.{AllDigits, number, plain_digits}
use Rattle.p21_spec_exchange.specs.Number.{none, minus, sign_bytes, is_minus, signed, Ratio, scaled, SameRatio, HasNormalisedExponent, IsExponentInRange, IsInRange, Exponent, no_exponent, exponent, exponent_bytes, IsExponent, exponent_value, IsShortExponent, RealForm, real_ratio, Decimal, IsReduced, SpellsReal, ratio_of}
use Rattle.p21_spec_exchange.specs.Spelling.{digits_with_point, minus_bytes, exponent_spelling, normalised_exponent, real_spelling}
use Rattle.p21_spec_exchange.proofs.Exponents.{has_exponent, in_range_of_same}
use Rattle.p21_spec_exchange.proofs.Forms.{same_form}
use Rattle.p21_spec_basics.proofs.PlainDigits.{ArePlain, plain_are_digits, plain_digits_are, plain_high, plain_low, plain_some}
use Rattle.p21_spec_exchange.proofs.Ratios.{ratio-positive, ratio-transitive, same_scaled}
use Rattle.p21_spec_exchange.proofs.ReducedDecimals.{reduced_once}
use Rattle.p21_spec_exchange.proofs.SignedNumbers.{sign_of, signed_abs}

-- ---- one spelling has one value

pub form-positive : (bytes : List ℕ) (form : RealForm bytes) → 0 < (real_ratio form).denominator
form-positive bytes form = one-le-pow (length form.fraction + down (exponent_value form.power)) 10 (omega arith)

pub form_ratio_once : (bytes : List ℕ) (f g : RealForm bytes) → real_ratio f ≡ real_ratio g
form_ratio_once bytes f g = let same = same_form bytes f g in rw (same.sign, same.whole, same.fraction, same.power) refl

pub real_once : (bytes : List ℕ) (a b : Decimal) → SpellsReal bytes a → SpellsReal bytes b → a ≡ b
real_once bytes a b s t =
    let forms : SameRatio (real_ratio s.form) (ratio_of b) = subst (λ (r : Ratio). SameRatio r (ratio_of b)) (form_ratio_once bytes t.form s.form) t.same in
    reduced_once a b s.is_reduced t.is_reduced (ratio-transitive (ratio_of a) (real_ratio s.form) (ratio_of b) (ratio-positive a) (form-positive bytes s.form) (ratio-positive b) (sym s.same) forms)

-- ---- the canonical spelling spells the value

abbrev power_of : ℤ → Exponent
power_of (pos zero) = no_exponent
power_of (pos (suc n)) = exponent none (plain_digits (suc n))
power_of (negsuc n) = exponent minus (plain_digits (suc n))

power_of_are : (k : ℤ) → IsExponent (power_of k) × (exponent_value (power_of k) ≡ k) × (exponent_bytes (power_of k) ≡ exponent_spelling k)
power_of_are (pos zero) = (tt, refl, refl)
power_of_are (pos (suc n)) =
    let own = plain_digits_are (suc n) in
    ((plain_some (plain_digits (suc n)) own.0, plain_are_digits (plain_digits (suc n)) own.0), ap pos own.1, refl)
power_of_are (negsuc n) =
    let own = plain_digits_are (suc n) in
    ((plain_some (plain_digits (suc n)) own.0, plain_are_digits (plain_digits (suc n)) own.0), rw own.1, refl)

short_power : (k : ℤ) → IsExponentInRange k → IsShortExponent (power_of k)
short_power (pos zero) h = tt
short_power (pos (suc n)) h = rw (plain_digits_are (suc n)).1 (omega (arith, ints, h.1))
short_power (negsuc n) h = rw (plain_digits_are (suc n)).1 (omega (arith, ints, h.0))

minus_bytes_is : (m : ℤ) (xs : List ℕ) → minus_bytes m ++ xs ≡ sign_bytes (sign_of m) ++ xs
minus_bytes_is (pos n) xs = refl
minus_bytes_is (negsuc n) xs = refl

form_of : (m : ℤ) (d : ℕ) (ds : List ℕ) (k : ℤ) → AllDigits (d ∷ ds) → RealForm (minus_bytes m ++ (digits_with_point (d ∷ ds) ++ exponent_spelling k))
form_of m d ds k p =
    record {
      sign = sign_of m;
      whole = d ∷ [];
      fraction = ds;
      power = power_of k;
      some_digits = omega arith;
      are_digits = (p.0, tt);
      are_fraction_digits = p.1;
      is_exponent = (power_of_are k).0;
      bytes_are = minus_bytes_is m (d ∷ 46 ∷ ds ++ exponent_spelling k) ∙ rw (power_of_are k).2;
    }

-- the ratio of the canonical form
ratio_of_form : (m : ℤ) (d : ℕ) (ds : List ℕ) (k : ℤ) (p : AllDigits (d ∷ ds)) → number (d ∷ ds) ≡ nat_abs m → real_ratio (form_of m d ds k p) ≡ scaled m (up k) (length ds + down k)
unfolding form_of
ratio_of_form m d ds k p e =
    let significand : signed (is_minus (sign_of m)) (number (d ∷ ds)) ≡ m = rw e (signed_abs m) in
    ap (λ (z : ℤ). scaled z (up (exponent_value (power_of k))) (length ds + down (exponent_value (power_of k)))) significand
    ∙ ap (λ (z : ℤ). scaled m (up z) (length ds + down z)) (power_of_are k).1

-- a number other than zero has the normalised exponent of its canonical spelling
pub normalised_exponent_is : (d : Decimal) → 0 < nat_abs d.significand → HasNormalisedExponent (ratio_of d) (normalised_exponent d)
normalised_exponent_is d positive =
    let m = d.significand in
    let ds = plain_digits (nat_abs m) in
    let own = plain_digits_are (nat_abs m) in
    let low = rw own.1 at (plain_low ds own.0 (omega (arith, own.1))) in
    let high = rw own.1 at (plain_high ds own.0) in
    subst (λ (z : ℤ). HasNormalisedExponent (scaled z (up d.exponent) (down d.exponent)) (normalised_exponent d)) (signed_abs m)
    (has_exponent (is_minus (sign_of m)) (nat_abs m) (length ds - 1) (up d.exponent) (down d.exponent) (normalised_exponent d) low high (omega (arith, ints)))

near : (d : Decimal) → IsReduced d → IsInRange (ratio_of d) → IsExponentInRange (normalised_exponent d)
near d reduced in_range =
    elim (cases_eq (nat_abs d.significand) 0) [
      | inl is_zero ↦
          let both = reduced (ap (λ (n : ℕ). n % 10) is_zero) in
          let one : length (plain_digits (nat_abs d.significand)) ≡ 1 = ap (λ (n : ℕ). length (plain_digits n)) is_zero in
          (omega (arith, ints, both.1, one), omega (arith, ints, both.1, one))
      | inr some ↦ in_range (normalised_exponent d) (normalised_exponent_is d (omega arith))
    ]

spells : (d : Decimal) (digits : List ℕ) → IsReduced d → IsInRange (ratio_of d) → ArePlain digits → number digits ≡ nat_abs d.significand → (k : ℤ) → k ≡ d.exponent +ℤ pos (length digits - 1) → IsExponentInRange k → SpellsReal (minus_bytes d.significand ++ (digits_with_point digits ++ exponent_spelling k)) d
unfolding form_of
spells d [] reduced in_range plain n k same near = absurd plain
spells d (c ∷ cs) reduced in_range plain n k same near =
    let m = d.significand in
    let form = form_of m c cs k (plain_are_digits (c ∷ cs) plain) in
    let equal : SameRatio (real_ratio form) (ratio_of d) =
    subst (λ (r : Ratio). SameRatio r (ratio_of d)) (sym (ratio_of_form m c cs k (plain_are_digits (c ∷ cs) plain) n))
    (subst (λ (z : ℤ). SameRatio (scaled z (up k) (length cs + down k)) (scaled z (up d.exponent) (down d.exponent))) (signed_abs m)
    (same_scaled (is_minus (sign_of m)) (nat_abs m) (nat_abs m) 0 (up k) (length cs + down k) (up d.exponent) (down d.exponent) (omega arith) (omega (arith, ints)))) in
    record {
      form = form;
      is_short = short_power k near;
      in_range = in_range_of_same (ratio_of d) (real_ratio form) (ratio-positive d) (form-positive _ form) (sym equal) in_range;
      is_reduced = reduced;
      same = equal;
    }

-- a reduced number in range
pub real_spells : (d : Decimal) → IsReduced d → IsInRange (ratio_of d) → SpellsReal (real_spelling d) d
real_spells d reduced in_range =
    let own = plain_digits_are (nat_abs d.significand) in
    spells d (plain_digits (nat_abs d.significand)) reduced in_range own.0 own.1 (normalised_exponent d) refl (near d reduced in_range)

-- two values have equal ratios exactly if their canonical spellings are equal
pub real_spelling_same : (a b : Decimal) → IsReduced a → IsInRange (ratio_of a) → IsReduced b → IsInRange (ratio_of b) → SameRatio (ratio_of a) (ratio_of b) ↔ (real_spelling a ≡ real_spelling b)
real_spelling_same a b p q r s = (
  λ same. ap real_spelling (reduced_once a b p r same),
  λ same. subst (λ (d : Decimal). SameRatio (ratio_of a) (ratio_of d)) (real_once (real_spelling a) a b (real_spells a p q) (rw same (real_spells b r s))) refl,
)
