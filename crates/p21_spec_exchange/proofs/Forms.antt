-- The parts of a number are known from its bytes.
use Rattle.std.proofs.Common.{◌≡◌, ◌≢◌, ℕ, ◌<◌, List, [], ◌∷◌, ◌++◌, length, refl, ap, sym, ◌∙◌, arith, if◌then◌else◌, ◌==◌}
use Rattle.std.proofs.lemmas.Bool.Decides.{nat_tests}
use Rattle.std.proofs.lemmas.List.{append-nil}
use Rattle.p21_spec_basics.specs.Digits.{IsDigit, AllDigits}
use Rattle.p21_spec_exchange.specs.Number.{Sign, none, plus, minus, sign_bytes, Exponent, no_exponent, exponent, exponent_bytes, IsExponent, RealForm}

-- the bytes do not begin with a digit
abbrev pub NoDigitFirst : List ℕ → Type 0
NoDigitFirst [] = Unit {0}
NoDigitFirst (byte ∷ bytes) = IsDigit byte → ⊥

pub split_once : (a b r s : List ℕ) → AllDigits a → AllDigits b → NoDigitFirst r → NoDigitFirst s → a ++ r ≡ b ++ s → (a ≡ b) × (r ≡ s)
split_once [] [] r s p q m n e = (refl, e)
split_once [] (y ∷ b) [] s p q m n e = cc
split_once [] (y ∷ b) (z ∷ r) s p q m n e = let same : z ≡ y = cc in absurd (m (rw same q.0))
split_once (x ∷ a) [] r [] p q m n e = cc
split_once (x ∷ a) [] r (z ∷ s) p q m n e = let same : z ≡ x = cc in absurd (n (rw same p.0))
split_once (x ∷ a) (y ∷ b) r s p q m n e =
    let head : x ≡ y = cc in
    let tail : a ++ r ≡ b ++ s = cc in
    let rest = split_once a b r s p.1 q.1 m n tail in
    let front : a ≡ b = rest.0 in
    ((cc), rest.1)

abbrev pub first_sign : List ℕ → Sign
first_sign [] = none
first_sign (c ∷ cs) = if c == 43 then plus else (if c == 45 then minus else none)

abbrev pub behind_sign : List ℕ → List ℕ
behind_sign [] = []
behind_sign (c ∷ cs) = if c == 43 then cs else (if c == 45 then cs else c ∷ cs)

-- the bytes do not begin with a sign
abbrev pub NoSignFirst : List ℕ → Type 0
NoSignFirst [] = Unit {0}
NoSignFirst (c ∷ cs) = (c ≢ 43) × (c ≢ 45)

pub no_sign_first : (ds rest : List ℕ) → 0 < length ds → AllDigits ds → NoSignFirst (ds ++ rest)
no_sign_first [] rest n p = absurd (omega arith)
no_sign_first (c ∷ cs) rest n p = let d = p.0 in (λ e. omega arith, λ e. omega arith)

pub first_sign_bytes : (s : Sign) (xs : List ℕ) → NoSignFirst xs → (first_sign (sign_bytes s ++ xs) ≡ s) × (behind_sign (sign_bytes s ++ xs) ≡ xs)
first_sign_bytes none [] n = (refl, refl)
first_sign_bytes none (c ∷ cs) n = (grind (arith, nat_tests), grind (arith, nat_tests))
first_sign_bytes plus xs n = (refl, refl)
first_sign_bytes minus xs n = (refl, refl)

pub sign_once : (s t : Sign) (xs ys : List ℕ) → NoSignFirst xs → NoSignFirst ys → sign_bytes s ++ xs ≡ sign_bytes t ++ ys → (s ≡ t) × (xs ≡ ys)
sign_once s t xs ys m n e =
    let a = first_sign_bytes s xs m in
    let b = first_sign_bytes t ys n in
    (sym a.0 ∙ ap first_sign e ∙ b.0, sym a.1 ∙ ap behind_sign e ∙ b.1)

pub no_digit_exponent : (x : Exponent) → NoDigitFirst (exponent_bytes x)
no_digit_exponent no_exponent = tt
no_digit_exponent (exponent s ds) = λ d. omega (arith, d)

pub exponent_bytes_once : (s t : Exponent) → IsExponent s → IsExponent t → exponent_bytes s ≡ exponent_bytes t → s ≡ t
exponent_bytes_once no_exponent no_exponent p q e = refl
exponent_bytes_once no_exponent (exponent t es) p q e = cc
exponent_bytes_once (exponent s ds) no_exponent p q e = cc
exponent_bytes_once (exponent s ds) (exponent t es) p q e =
    let tail : sign_bytes s ++ ds ≡ sign_bytes t ++ es = cc in
    let x : NoSignFirst ds = rw append-nil at (no_sign_first ds [] p.0 p.1) in
    let y : NoSignFirst es = rw append-nil at (no_sign_first es [] q.0 q.1) in
    let parts = sign_once s t ds es x y tail in
    let a = parts.0 in
    let b = parts.1 in
    (cc)

-- a real has one form
pub record SameForm {bytes : List ℕ} (f g : RealForm bytes) : Type 0 where
  pub sign : f.sign ≡ g.sign
  pub whole : f.whole ≡ g.whole
  pub fraction : f.fraction ≡ g.fraction
  pub power : f.power ≡ g.power

pub same_form : (bytes : List ℕ) (f g : RealForm bytes) → SameForm f g
same_form bytes f g =
    let signs = sign_once f.sign g.sign _ _ (no_sign_first f.whole _ f.some_digits f.are_digits) (no_sign_first g.whole _ g.some_digits g.are_digits) (sym f.bytes_are ∙ g.bytes_are) in
    let wholes = split_once f.whole g.whole _ _ f.are_digits g.are_digits (λ d. omega (arith, d)) (λ d. omega (arith, d)) signs.1 in
    let rests = wholes.1 in
    let tails : f.fraction ++ exponent_bytes f.power ≡ g.fraction ++ exponent_bytes g.power = cc in
    let fractions = split_once f.fraction g.fraction _ _ f.are_fraction_digits g.are_fraction_digits (no_digit_exponent f.power) (no_digit_exponent g.power) tails in
    record {
      sign = signs.0;
      whole = wholes.0;
      fraction = fractions.0;
      power = exponent_bytes_once f.power g.power f.is_exponent g.is_exponent fractions.1;
    }
