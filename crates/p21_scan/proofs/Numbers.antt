-- The parts of a number are known from its bytes, and spell it.
use Rattle.std.proofs.Common.{◌≡◌, ℕ, ◌-◌, ◌<◌, cond, eqb, Bool, List, [], ◌∷◌, ◌++◌, length, length-append, append_assoc, take, refl, ap, sym, subst, ◌∙◌, arith}
use Rattle.std.proofs.Math.Seq.{take-append_seam}
use Rattle.std.proofs.lemmas.Bool.{cond_both, eqb-true}
use Rattle.std.proofs.lemmas.List.{append-nil}
use Rattle.p21_spec_basics.specs.Digits.{AllDigits, number}
use Rattle.p21_spec_exchange.proofs.Forms.{NoDigitFirst, behind_sign, first_sign, first_sign_bytes, no_sign_first, sign_once, split_once}
use Rattle.p21_spec_exchange.specs.Number.{Exponent, IsExponent, RealForm, SpellsWhole, exponent, exponent_bytes, is_minus, minus, no_exponent, none, plus, sign_bytes, signed}
use Rattle.p21_scan.specs.Digits.{BeginsWithoutByte}
use Rattle.p21_scan.specs.Number.{IsExponentAt, IsIntegerAt, IsRealAt, NoExponentAt, NoIntegerAt}

-- ---- a sign or none, and digits

sign_front : (bytes : List ℕ) → bytes ≡ sign_bytes (first_sign bytes) ++ behind_sign bytes
sign_front [] = refl
sign_front (c ∷ cs) =
    cond_both (eqb c 43) plus (cond (eqb c 45) minus none) (λ s. c ∷ cs ≡ sign_bytes s ++ behind_sign (c ∷ cs)) (λ e. rw e (ap (λ (b : ℕ). b ∷ cs) (eqb-true c 43 e)))
    (λ e. cond_both (eqb c 45) minus none (λ s. c ∷ cs ≡ sign_bytes s ++ behind_sign (c ∷ cs)) (λ f. rw (e, f) (ap (λ (b : ℕ). b ∷ cs) (eqb-true c 45 f))) (λ f. rw (e, f) refl))

pub integer_at : (bytes digits rest : List ℕ) (negative : Bool) → negative ≡ is_minus (first_sign bytes) → behind_sign bytes ≡ digits ++ rest → 0 < length digits → AllDigits digits → NoDigitFirst rest → IsIntegerAt bytes negative digits rest
integer_at bytes digits rest negative n e some are ends = record {
  sign = first_sign bytes;
  bytes_are = sign_front bytes ∙ ap (λ xs. sign_bytes (first_sign bytes) ++ xs) e;
  negative_is = n;
  some_digits = some;
  are_digits = are;
  ends = ends;
}

pub integer_once : (bytes a b r s : List ℕ) (m n : Bool) → IsIntegerAt bytes m a r → IsIntegerAt bytes n b s → (m ≡ n) × (a ≡ b) × (r ≡ s)
integer_once bytes a b r s m n x y =
    let signs = sign_once x.sign y.sign _ _ (no_sign_first a r x.some_digits x.are_digits) (no_sign_first b s y.some_digits y.are_digits) (sym x.bytes_are ∙ y.bytes_are) in
    let parts = split_once a b r s x.are_digits y.are_digits x.ends y.ends signs.1 in
    (x.negative_is ∙ (ap is_minus signs.0 ∙ sym y.negative_is), parts.0, parts.1)

pub no_integer : (bytes digits rest : List ℕ) → behind_sign bytes ≡ digits ++ rest → AllDigits digits → NoDigitFirst rest → length digits ≡ 0 → NoIntegerAt bytes
no_integer bytes digits rest e are ends empty negative ds tail x =
    let again = (first_sign_bytes x.sign (ds ++ tail) (no_sign_first ds tail x.some_digits x.are_digits)).1 in
    let parts = split_once ds digits tail rest x.are_digits are x.ends ends (sym again ∙ ap behind_sign (sym x.bytes_are) ∙ e) in
    omega (arith, ap length parts.0, x.some_digits, empty)

-- ---- an exponent or none

pub no_exponent_at : (bytes : List ℕ) → NoDigitFirst bytes → NoExponentAt bytes → IsExponentAt bytes no_exponent bytes
no_exponent_at bytes ends other = record { bytes_are = refl; is_exponent = tt; ends = ends; alone = λ _. other }

pub exponent_at : (bytes written digits rest : List ℕ) (negative : Bool) → bytes ≡ 69 ∷ written → (x : IsIntegerAt written negative digits rest) → IsExponentAt bytes (exponent x.sign digits) rest
exponent_at bytes written digits rest negative e x = record {
  bytes_are = e ∙ ap (λ (xs : List ℕ). 69 ∷ xs) (x.bytes_are ∙ sym (append_assoc (sign_bytes x.sign) digits rest));
  is_exponent = (x.some_digits, x.are_digits);
  ends = x.ends;
  alone = λ same. cc;
}

pub without_mark : (bytes : List ℕ) → BeginsWithoutByte 69 bytes → NoExponentAt bytes
without_mark [] other written e = cc
without_mark (b ∷ bytes) other written e = let mark : b ≡ 69 = cc in absurd (other mark)

pub behind_mark : (bytes written : List ℕ) → bytes ≡ 69 ∷ written → NoIntegerAt written → NoExponentAt bytes
behind_mark bytes written e none_there other f = let same : other ≡ written = (let both : 69 ∷ other ≡ 69 ∷ written = sym f ∙ e in cc) in subst NoIntegerAt (sym same) none_there

-- what an exponent leaves of bytes that are one is nothing
exponent_whole : (bytes rest : List ℕ) (x y : Exponent) → IsExponentAt bytes x rest → IsExponent y → bytes ≡ exponent_bytes y → rest ≡ []
exponent_whole bytes rest no_exponent no_exponent at is e = sym at.bytes_are ∙ e
exponent_whole bytes rest no_exponent (exponent s ds) at is e =
    absurd (at.alone refl (sign_bytes s ++ ds) (sym at.bytes_are ∙ e) (is_minus s) ds [] (record { sign = s; bytes_are = ap (λ xs. sign_bytes s ++ xs) (sym (append-nil ds)); negative_is = refl; some_digits = is.0; are_digits = is.1; ends = tt }))
exponent_whole bytes rest (exponent s ds) no_exponent at is e = let clash : 69 ∷ ((sign_bytes s ++ ds) ++ rest) ≡ [] = sym at.bytes_are ∙ e in cc
exponent_whole bytes rest (exponent s ds) (exponent t es) at is e =
    let both : 69 ∷ ((sign_bytes s ++ ds) ++ rest) ≡ 69 ∷ (sign_bytes t ++ es) = sym at.bytes_are ∙ e in
    let tails : (sign_bytes s ++ ds) ++ rest ≡ sign_bytes t ++ es = cc in
    let one : IsIntegerAt (sign_bytes t ++ es) (is_minus s) ds rest = record { sign = s; bytes_are = sym tails ∙ append_assoc (sign_bytes s) ds rest; negative_is = refl; some_digits = at.is_exponent.0; are_digits = at.is_exponent.1; ends = at.ends } in
    let other : IsIntegerAt (sign_bytes t ++ es) (is_minus t) es [] = record { sign = t; bytes_are = ap (λ xs. sign_bytes t ++ xs) (sym (append-nil es)); negative_is = refl; some_digits = is.0; are_digits = is.1; ends = tt } in
    (integer_once _ _ _ _ _ _ _ one other).2

-- ---- bytes that are a number and nothing else

pub whole_integer : (bytes digits rest : List ℕ) (negative : Bool) (value : _) → IsIntegerAt bytes negative digits rest → SpellsWhole bytes value → rest ≡ []
whole_integer bytes digits rest negative value x s =
    (integer_once _ _ _ _ _ _ _ x (record { sign = s.sign; bytes_are = s.bytes_are ∙ ap (λ xs. sign_bytes s.sign ++ xs) (sym (append-nil s.digits)); negative_is = refl; some_digits = s.some_digits; are_digits = s.are_digits; ends = tt })).2

pub no_whole : (bytes : List ℕ) (value : _) → NoIntegerAt bytes → SpellsWhole bytes value → ⊥
no_whole bytes value none_there s =
    none_there (is_minus s.sign) s.digits [] (record { sign = s.sign; bytes_are = s.bytes_are ∙ ap (λ xs. sign_bytes s.sign ++ xs) (sym (append-nil s.digits)); negative_is = refl; some_digits = s.some_digits; are_digits = s.are_digits; ends = tt })

-- the digits before the point of a real
form_integer : (bytes : List ℕ) (f : RealForm bytes) → IsIntegerAt bytes (is_minus f.sign) f.whole (46 ∷ (f.fraction ++ exponent_bytes f.power))
form_integer bytes f = record { sign = f.sign; bytes_are = f.bytes_are; negative_is = refl; some_digits = f.some_digits; are_digits = f.are_digits; ends = λ d. omega (arith, d) }

pub no_real : (bytes : List ℕ) → NoIntegerAt bytes → RealForm bytes → ⊥
no_real bytes none_there f = none_there _ _ _ (form_integer bytes f)

pub no_point : (bytes digits rest : List ℕ) (negative : Bool) → IsIntegerAt bytes negative digits rest → BeginsWithoutByte 46 rest → RealForm bytes → ⊥
no_point bytes digits rest negative x other f = at rest other (integer_once _ _ _ _ _ _ _ x (form_integer bytes f)).2
  where
    at : (r : List ℕ) → BeginsWithoutByte 46 r → r ≡ 46 ∷ (f.fraction ++ exponent_bytes f.power) → ⊥
    at [] other e = cc
    at (b ∷ r) other e = let point : b ≡ 46 = cc in other point

exponent_no_digit : (x : Exponent) → NoDigitFirst (exponent_bytes x)
exponent_no_digit no_exponent = tt
exponent_no_digit (exponent s ds) = λ d. omega (arith, d)

pub whole_real : (bytes whole fraction rest : List ℕ) (negative : Bool) (power : Exponent) → IsRealAt bytes negative whole fraction power rest → RealForm bytes → rest ≡ []
whole_real bytes whole fraction rest negative power x f =
    let points : 46 ∷ (fraction ++ x.behind) ≡ 46 ∷ (f.fraction ++ exponent_bytes f.power) = (integer_once _ _ _ _ _ _ _ x.whole_at (form_integer bytes f)).2 in
    let tails : fraction ++ x.behind ≡ f.fraction ++ exponent_bytes f.power = cc in
    let parts = split_once fraction f.fraction x.behind (exponent_bytes f.power) x.are_digits f.are_fraction_digits x.no_digit (exponent_no_digit f.power) tails in
    exponent_whole x.behind rest power f.power x.power_at f.is_exponent parts.1

-- ---- the bytes of a number at the front

pub front_take : (bytes front rest : List ℕ) → bytes ≡ front ++ rest → take (length bytes - length rest) bytes ≡ front
front_take bytes front rest e =
    let count : length bytes - length rest ≡ length front = let l = ap length e ∙ length-append front rest in omega arith in
    ap (λ n. take n bytes) count ∙ (ap (λ xs. take (length front) xs) e ∙ take-append_seam front rest)

pub spells_integer : (bytes digits rest : List ℕ) (negative : Bool) → IsIntegerAt bytes negative digits rest → SpellsWhole (take (length bytes - length rest) bytes) (signed negative (number digits))
spells_integer bytes digits rest negative x = record {
  sign = x.sign;
  digits = digits;
  bytes_are = front_take bytes (sign_bytes x.sign ++ digits) rest (x.bytes_are ∙ sym (append_assoc (sign_bytes x.sign) digits rest));
  some_digits = x.some_digits;
  are_digits = x.are_digits;
  value_is = ap (λ (b : Bool). signed b (number digits)) x.negative_is;
}

-- the bytes up to what stands behind have these parts
pub real_front : (bytes whole fraction rest : List ℕ) (negative : Bool) (power : Exponent) (x : IsRealAt bytes negative whole fraction power rest)
    → bytes ≡ (sign_bytes x.whole_at.sign ++ (whole ++ (46 ∷ (fraction ++ exponent_bytes power)))) ++ rest
real_front bytes whole fraction rest negative power x =
    let sign = sign_bytes x.whole_at.sign in
    let tail = exponent_bytes power in
    x.whole_at.bytes_are
    ∙ (ap (λ xs. sign ++ (whole ++ (46 ∷ (fraction ++ xs)))) x.power_at.bytes_are
    ∙ sym (append_assoc sign (whole ++ (46 ∷ (fraction ++ tail))) rest
    ∙ ap (λ xs. sign ++ xs) (append_assoc whole (46 ∷ (fraction ++ tail)) rest
    ∙ ap (λ xs. whole ++ (46 ∷ xs)) (append_assoc fraction tail rest))))

abbrev pub real_form : (bytes whole fraction rest : List ℕ) (negative : Bool) (power : Exponent) (x : IsRealAt bytes negative whole fraction power rest) → RealForm (take (length bytes - length rest) bytes)
real_form bytes whole fraction rest negative power x = record {
  sign = x.whole_at.sign;
  whole = whole;
  fraction = fraction;
  power = power;
  bytes_are = front_take bytes _ rest (real_front bytes whole fraction rest negative power x);
  some_digits = x.whole_at.some_digits;
  are_digits = x.whole_at.are_digits;
  are_fraction_digits = x.are_digits;
  is_exponent = x.power_at.is_exponent;
}
