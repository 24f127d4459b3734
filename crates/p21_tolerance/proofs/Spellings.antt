-- What the parts of a tolerance as it is given stand for, and that there are no others.
use Rattle.std.proofs.Common.{◌≡◌, ◌⊎◌, ℕ, suc, ◌+◌, ◌-◌, ◌*◌, ◌^◌, ◌<◌, ◌≤◌, ℤ, pos, ◌-ℤ◌, nat_abs, List, [], ◌∷◌, ◌++◌, length}
use Rattle.std.proofs.Common.{take, get_or, Option, None, Some, IfSome, IfNone, inl, inr, refl, ap, sym, subst, ◌∙◌, arith, append-nil}
use Rattle.std.proofs.Math.Nat.{le-mul_of_pos_right, mul-le-mul_left, one-le-pow, pow-le-pow_right, pow-succ', zero-mul}
use Rattle.p21_spec_basics.proofs.PlainDigits.{number_append}
use Rattle.p21_spec_basics.specs.Digits.{AllDigits, number}
use Rattle.p21_spec_exchange.proofs.Forms.{NoDigitFirst, split_once}
use Rattle.p21_spec_exchange.proofs.SignedNumbers.{abs_signed}
use Rattle.p21_spec_exchange.specs.Number.{Exponent, IsExponent, SpellsWhole, exponent, sign_bytes}
use Rattle.p21_scan.proofs.DigitRuns.{number_more, number_take}
use Rattle.p21_scan.specs.Digits.{BeginsWithoutByte}
use Rattle.p21_scan.specs.Number.{HasExponent, IsIntegerAt, ReadsExponent}
use Rattle.p21_scan.specs.declared.number.Integer.{Integer}
use Rattle.p21_model_values.proofs.NumberTexts.{whole-digits}
use Rattle.p21_tolerance.specs.Spelled.{IsFractionAt, IsPower, SpellsTolerance, fraction_of, no_power, point_bytes, power}
use Rattle.p21_tolerance.specs.declared.tolerance.Tolerance.{Tolerance}

-- ---- further digits

regroup : (front x n d : ℕ) → (front * x + n) * 10 + d ≡ front * (10 * x) + (n * 10 + d)
regroup front x n d = grind arith

pub digits-more : (front i all next : ℕ) (digits : List ℕ) → i < length digits → all ≡ front * 10 ^ i + number (take i digits)
    → next ≡ all * 10 + (get_or digits i 0 - 48) → next ≡ front * 10 ^ (i + 1) + number (take (i + 1) digits)
digits-more front i all next digits lt is e =
    let tens : 10 ^ (i + 1) ≡ 10 * 10 ^ i = ap (λ (k : ℕ). 10 ^ k) (let s : i + 1 ≡ suc i = omega arith in s) ∙ pow-succ' 10 i in
    rw (tens, number_more digits i lt) (e ∙ ap (λ (n : ℕ). n * 10 + (get_or digits i 0 - 48)) is
    ∙ regroup front (10 ^ i) (number (take i digits)) (get_or digits i 0 - 48))

-- further digits make no number smaller
pub front-less : (front i : ℕ) (digits : List ℕ) → i ≤ length digits
    → front * 10 ^ i + number (take i digits) ≤ front * 10 ^ length digits + number digits
front-less front i digits within =
    omega (arith, number_take i digits, mul-le-mul_left front (pow-le-pow_right {n = 10} (omega arith) {i = i} {j = length digits} within))

-- ---- an integer

pub exponent-there : (bytes rest : List ℕ) (found : Integer) → IsIntegerAt bytes found.negative found.digits.now rest
    → (power : Exponent) × HasExponent (Some found) power × IsExponent power
exponent-there bytes rest found at =
    (exponent at.sign found.digits.now, (at.sign, refl, at.negative_is), (at.some_digits, at.are_digits))

pub integer-some : (bytes rest : List ℕ) (found : Integer) (r : Option ℤ) (at : IsIntegerAt bytes found.negative found.digits.now rest)
    → rest ≡ [] → ReadsExponent (exponent at.sign found.digits.now) r → IfSome r (λ value. SpellsWhole bytes value)
integer-some bytes rest found None at none reads = tt
integer-some bytes rest found (Some value) at none reads = record {
  sign = at.sign;
  digits = found.digits.now;
  bytes_are = at.bytes_are ∙ ap (λ xs. sign_bytes at.sign ++ (found.digits.now ++ xs)) none
      ∙ ap (λ xs. sign_bytes at.sign ++ xs) (append-nil found.digits.now);
  some_digits = at.some_digits;
  are_digits = at.are_digits;
  value_is = reads.1;
}

pub integer-none : (bytes rest : List ℕ) (found : Integer) (r : Option ℤ) (at : IsIntegerAt bytes found.negative found.digits.now rest)
    → ReadsExponent (exponent at.sign found.digits.now) r
    → IfNone r ((value : ℤ) → SpellsWhole bytes value → nat_abs value < 10 ^ 9 → ⊥)
integer-none bytes rest found (Some value) at reads = tt
integer-none bytes rest found None at reads = λ value spells small.
    let same = whole-digits bytes found.digits.now rest found.negative value at spells in
    reads (omega (arith, small, sym (abs_signed found.negative (number found.digits.now)) ∙ ap nat_abs same))

-- ---- an exponent

pub power-none : (bytes : List ℕ) → length bytes ≡ 0 → IsPower bytes (pos 0)
power-none [] none = no_power
power-none (byte ∷ bytes) none = absurd (omega arith)

pub power-some : (bytes written : List ℕ) (mark : ℕ) (r : Option ℤ) → bytes ≡ mark ∷ written → (mark ≡ 69) ⊎ (mark ≡ 101)
    → IfSome r (λ value. SpellsWhole written value) → IfSome r (λ value. nat_abs value < 10 ^ 9) → IfSome r (λ value. IsPower bytes value)
power-some bytes written mark None is marks spells small = tt
power-some bytes written mark (Some value) is marks spells small =
    subst (λ xs. IsPower xs value) (sym is) (power mark written value marks spells small)

power-refused : (bytes written : List ℕ) (mark : ℕ) (value : ℤ) → bytes ≡ mark ∷ written
    → ((value : ℤ) → SpellsWhole written value → nat_abs value < 10 ^ 9 → ⊥) → IsPower bytes value → ⊥
power-refused bytes written mark value is none no_power = cc
power-refused bytes written mark value is none (power other more _ marks spells small) =
    let same : more ≡ written = (let both : other ∷ more ≡ mark ∷ written = is in cc) in
    none value (subst (λ xs. SpellsWhole xs value) same spells) small

pub powers-refused : (bytes written : List ℕ) (mark : ℕ) (r : Option ℤ) → bytes ≡ mark ∷ written
    → IfNone r ((value : ℤ) → SpellsWhole written value → nat_abs value < 10 ^ 9 → ⊥) → IfNone r ((value : ℤ) → IsPower bytes value → ⊥)
powers-refused bytes written mark None is none = λ value there. power-refused bytes written mark value is none there
powers-refused bytes written mark (Some found) is none = tt

pub power-unmarked : (bytes written : List ℕ) (mark : ℕ) (value : ℤ) → bytes ≡ mark ∷ written → ((mark ≡ 69) ⊎ (mark ≡ 101) → ⊥)
    → IsPower bytes value → ⊥
power-unmarked bytes written mark value is other no_power = cc
power-unmarked bytes written mark value is other (power first more _ marks spells small) =
    let same : first ≡ mark = (let both : first ∷ more ≡ mark ∷ written = is in cc) in
    other (subst (λ (m : ℕ). (m ≡ 69) ⊎ (m ≡ 101)) same marks)

-- ---- a point

pub none-pointed : (bytes : List ℕ) → NoDigitFirst bytes → BeginsWithoutByte 46 bytes → IsFractionAt bytes [] bytes
none-pointed bytes ends alone = record {
  point = None;
  bytes_are = refl;
  fraction_is = refl;
  are_digits = tt;
  ends = ends;
  alone = λ _. alone;
}

pub pointed : (bytes digits fraction rest : List ℕ) → bytes ≡ 46 ∷ digits → digits ≡ fraction ++ rest → AllDigits fraction
    → NoDigitFirst rest
    → IsFractionAt bytes fraction rest
pointed bytes digits fraction rest is parts all ends = record {
  point = Some fraction;
  bytes_are = is ∙ ap (λ (xs : List ℕ). 46 ∷ xs) parts;
  fraction_is = refl;
  are_digits = all;
  ends = ends;
  alone = λ none. cc;
}

-- ---- the parts are known from the bytes

power-no-digit : (written : List ℕ) (value : ℤ) → IsPower written value → NoDigitFirst written
power-no-digit written value no_power = tt
power-no-digit written value (power mark bytes _ (inl e) spells small) = λ d. omega (arith, d)
power-no-digit written value (power mark bytes _ (inr e) spells small) = λ d. omega (arith, d)

power-no-point : (written more : List ℕ) (value : ℤ) → IsPower written value → written ≡ 46 ∷ more → ⊥
power-no-point written more value no_power is = cc
power-no-point written more value (power mark bytes _ (inl e) spells small) is = let same : mark ≡ 46 =
    (let both : mark ∷ bytes ≡ 46 ∷ more = is in cc) in omega arith
power-no-point written more value (power mark bytes _ (inr e) spells small) is = let same : mark ≡ 46 =
    (let both : mark ∷ bytes ≡ 46 ∷ more = is in cc) in omega arith

point-no-digit : (point : Option (List ℕ)) (written : List ℕ) (value : ℤ) → IsPower written value
    → NoDigitFirst (point_bytes point ++ written)
point-no-digit None written value is = power-no-digit written value is
point-no-digit (Some fraction) written value is = λ d. omega (arith, d)

begins-other : (rest more : List ℕ) → BeginsWithoutByte 46 rest → rest ≡ 46 ∷ more → ⊥
begins-other [] more other is = cc
begins-other (byte ∷ rest) more other is = let same : byte ≡ 46 = cc in other same

one-point : (p q : Option (List ℕ)) (written rest : List ℕ) (value : ℤ) → AllDigits (fraction_of p) → AllDigits (fraction_of q)
    → IsPower written value → NoDigitFirst rest → (q ≡ None → BeginsWithoutByte 46 rest) → point_bytes p ++ written ≡ point_bytes q ++ rest
    → (fraction_of p ≡ fraction_of q) × (written ≡ rest)
one-point None None written rest value first second is ends alone e = (refl, e)
one-point None (Some fraction) written rest value first second is ends alone e = absurd (power-no-point written
    (fraction ++ rest) value is e)
one-point (Some fraction) None written rest value first second is ends alone e =
    absurd (begins-other rest (fraction ++ written) (alone refl) (sym e))
one-point (Some fraction) (Some other) written rest value first second is ends alone e =
    let tails : fraction ++ written ≡ other ++ rest = (let both : 46 ∷ (fraction ++ written) ≡ 46 ∷ (other ++ rest) = e in cc) in
    split_once fraction other written rest first second (power-no-digit written value is) ends tails

-- the parts that are read are those that a spelling has
pub record HasParts (whole fraction written : List ℕ) {bytes : List ℕ} {t : Tolerance} (s : SpellsTolerance bytes t) : Type 0 where
  pub whole_is : s.whole ≡ whole
  pub fraction_is : fraction_of s.point ≡ fraction
  pub written_is : s.written ≡ written

pub parts-known : (bytes whole more fraction rest : List ℕ) (t : Tolerance) → bytes ≡ whole ++ more → AllDigits whole → NoDigitFirst more
    → IsFractionAt more fraction rest → (s : SpellsTolerance bytes t) → HasParts whole fraction rest s
parts-known bytes whole more fraction rest t is digits ends at s =
    let wholes = split_once s.whole whole (point_bytes s.point ++ s.written) more s.are_digits digits
    (point-no-digit s.point s.written s.exponent s.is_power) ends (sym s.bytes_are ∙ is) in
    let points = one-point s.point at.point s.written rest s.exponent s.are_fraction_digits
    (subst AllDigits at.fraction_is at.are_digits) s.is_power
    at.ends at.alone (wholes.1 ∙ at.bytes_are) in
    record { whole_is = wholes.0; fraction_is = points.0 ∙ sym at.fraction_is; written_is = points.1 }

-- ---- a tolerance

pub spelled : (bytes whole more fraction rest : List ℕ) (t : Tolerance) (power_ : ℤ) (front : ℕ) → bytes ≡ whole ++ more → AllDigits whole
    → IsFractionAt more fraction rest → 0 < length whole + length fraction → length fraction < 10 ^ 9 → IsPower rest power_
    → front ≡ 0 * 10 ^ length whole + number whole → t.units ≡ front * 10 ^ length fraction + number fraction → t.units < 10 ^ 18
    → t.power ≡ power_ -ℤ pos (length fraction) → SpellsTolerance bytes t
spelled bytes whole more fraction rest t power_ front is digits at some short is_power front_is units few power_is =
    let same = at.fraction_is in
    let count : 0 * 10 ^ length whole ≡ 0 = zero-mul (10 ^ length whole) in
    let units_are : t.units ≡ number (whole ++ fraction) =
    units ∙ ap (λ (n : ℕ). n * 10 ^ length fraction + number fraction) (let e : front ≡ number whole = omega (arith, front_is, count) in e)
    ∙ sym (number_append whole fraction) in
    record {
      whole = whole;
      point = at.point;
      written = rest;
      exponent = power_;
      bytes_are = is ∙ ap (λ xs. whole ++ xs) at.bytes_are;
      some_digits = subst (λ xs. 0 < length whole + length xs) same some;
      are_digits = digits;
      are_fraction_digits = subst AllDigits same at.are_digits;
      is_short = subst (λ xs. length xs < 10 ^ 9) same short;
      is_power = is_power;
      units_are = subst (λ xs. t.units ≡ number (whole ++ xs)) same units_are;
      are_few = few;
      power_is = subst (λ (xs : List ℕ). t.power ≡ power_ -ℤ pos (length xs)) same power_is;
    }

-- what a spelling has, by the parts that are read
module _ (bytes whole fraction rest : List ℕ) (t : Tolerance) (s : SpellsTolerance bytes t) (has : HasParts whole fraction rest s) where
  pub has-some : 0 < length whole + length fraction
  has-some = omega (arith, s.some_digits, ap length has.whole_is, ap length has.fraction_is)

  pub has-short : length fraction < 10 ^ 9
  has-short = omega (arith, s.is_short, ap length has.fraction_is)

  pub has-power : IsPower rest s.exponent
  has-power = subst (λ xs. IsPower xs s.exponent) has.written_is s.is_power

  pub has-few : number whole * 10 ^ length fraction + number fraction < 10 ^ 18
  has-few =
      let units : t.units ≡ number (whole ++ fraction) = s.units_are ∙ ap (λ xs. number (xs ++ fraction_of s.point)) has.whole_is
      ∙ ap (λ xs. number (whole ++ xs)) has.fraction_is in
      omega (arith, s.are_few, units, number_append whole fraction)

  pub has-few-before : number whole < 10 ^ 18
  has-few-before = omega (
    arith,
    has-few,
    le-mul_of_pos_right {m = 10 ^ length fraction} (number whole) (one-le-pow (length fraction) 10
        (omega arith)),
  )
