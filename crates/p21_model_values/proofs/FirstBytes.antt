-- What a value is by its first byte.
use Rattle.std.proofs.Common.{◌≡◌, ℤ, pos, negsuc, nat_abs, ℕ, suc, ◌<◌, ◌≤◌, ◌⊎◌, Bool, true, false, ◌||◌, cond, eqb, List, [], ◌∷◌, ◌++◌, length, refl, ap, sym, subst, ◌∙◌, arith, inl, inr}
use Rattle.std.proofs.lemmas.Bool.{ne_eqb}
use Rattle.std.proofs.lemmas.Bool.Decides.{nat_tests}
use Rattle.p21_spec_basics.proofs.PlainDigits.{plain_are_digits, plain_digits_are, plain_some}
use Rattle.p21_spec_basics.specs.Digits.{AllDigits, IsDigit, is_digit, plain_digits}
use Rattle.p21_spec_exchange.specs.CanonicalText.{param_text}
use Rattle.p21_spec_exchange.specs.Keyword.{IsKeyword, IsUpper}
use Rattle.p21_spec_exchange.specs.Parameter.{Param, key_token, dollar, star, whole, real, text, name, item, bits, list, typed}
use Rattle.p21_spec_exchange.specs.Spelling.{digits_with_point, exponent_spelling, minus_bytes, normalised_exponent, real_spelling, spelling, whole_spelling}
use Rattle.p21_spec_exchange.specs.Token.{IsSpelled}
use Rattle.p21_spec_laws.specs.Written.{IsWritten}
use Rattle.p21_model_values.specs.declared.kind.Kind.TheVariants as kind
use Rattle.p21_model_values.specs.Ends.{has_point, is_at_end, kind_by}
use Rattle.p21_model_values.specs.Written.{IsTextOf, kind_of}

-- what is said of the first byte, of which there is one
abbrev FirstIs : (ℕ → Type 0) → List ℕ → Type 0
FirstIs P [] = ⊥
FirstIs P (byte ∷ bytes) = P byte

first-append : (P : ℕ → Type 0) (xs ys : List ℕ) → FirstIs P xs → FirstIs P (xs ++ ys)
first-append P [] ys is = absurd is
first-append P (x ∷ xs) ys is = is

abbrev BeginsNumber : ℕ → Type 0
BeginsNumber byte = (byte ≡ 45) ⊎ IsDigit byte

abbrev BeginsKey : ℕ → Type 0
BeginsKey byte = (byte ≡ 33) ⊎ IsUpper byte

digits-first : (bytes : List ℕ) → 0 < length bytes → AllDigits bytes → FirstIs BeginsNumber bytes
digits-first [] some are = omega (arith, some)
digits-first (byte ∷ bytes) some are = inr are.0

plain-first : (n : ℕ) → FirstIs BeginsNumber (plain_digits n)
plain-first n = digits-first (plain_digits n) (plain_some (plain_digits n) (plain_digits_are n).0)
    (plain_are_digits (plain_digits n) (plain_digits_are n).0)

whole-first : (z : ℤ) → FirstIs BeginsNumber (whole_spelling z)
whole-first (pos n) = plain-first n
whole-first (negsuc n) = inl refl

pointed-first : (bytes rest : List ℕ) → FirstIs BeginsNumber bytes → FirstIs BeginsNumber (digits_with_point bytes ++ rest)
pointed-first [] rest is = absurd is
pointed-first (digit ∷ bytes) rest is = is

real-first : (z : ℤ) (n : ℕ) (rest : List ℕ) → FirstIs BeginsNumber (minus_bytes z ++ (digits_with_point (plain_digits n) ++ rest))
real-first (pos _) n rest = pointed-first (plain_digits n) rest (plain-first n)
real-first (negsuc _) n rest = inl refl

word-first : (word : List ℕ) → IsKeyword word → FirstIs BeginsKey word
word-first [] is = absurd is
word-first (byte ∷ bytes) is = inr is.0

key-first : (user : Bool) (word : List ℕ) → IsSpelled (key_token (record { user = user; word = word }))
    → FirstIs BeginsKey (spelling (key_token (record { user = user; word = word })))
key-first true word spelled = inl refl
key-first false word spelled = word-first word spelled.1.1

-- ---- the first byte of a parameter

-- what the first byte of its text is
abbrev BeginsParam : Param → ℕ → Type 0
BeginsParam dollar byte = byte ≡ 36
BeginsParam star byte = byte ≡ 42
BeginsParam (whole z) byte = BeginsNumber byte
BeginsParam (real d) byte = BeginsNumber byte
BeginsParam (text chars) byte = byte ≡ 39
BeginsParam (name n) byte = byte ≡ 35
BeginsParam (item word) byte = byte ≡ 46
BeginsParam (bits value) byte = byte ≡ 34
BeginsParam (list ps) byte = byte ≡ 40
BeginsParam (typed key p) byte = BeginsKey byte

begins : (p : Param) → IsWritten p → FirstIs (BeginsParam p) (param_text p)
begins dollar written = refl
begins star written = refl
begins (whole z) written = first-append BeginsNumber (whole_spelling z) [] (whole-first z)
begins (real d) written = first-append BeginsNumber (real_spelling d) [] (real-first d.significand (nat_abs d.significand) _)
begins (text chars) written = refl
begins (name n) written = refl
begins (item word) written = refl
begins (bits value) written = refl
begins (list ps) written = refl
begins (typed key p) written = first-append BeginsKey (spelling (key_token key)) _ (key-first key.user key.word written.0)

number-differs : (byte other : ℕ) → BeginsNumber byte → other < 45 → eqb byte other ≡ false
number-differs byte other (inl h) low = ne_eqb byte other (λ e. omega (arith, h, low, e))
number-differs byte other (inr h) low = ne_eqb byte other (λ e. omega (arith, h, low, e))

key-differs : (byte other : ℕ) → BeginsKey byte → (33 < other) → (other ≤ 64) → eqb byte other ≡ false
key-differs byte other (inl h) low high = ne_eqb byte other (λ e. omega (arith, h, low, e))
key-differs byte other (inr (inl h)) low high = ne_eqb byte other (λ e. omega (arith, h, high, e))
key-differs byte other (inr (inr h)) low high = ne_eqb byte other (λ e. omega (arith, h, high, e))

-- none begins with a closing parenthesis
open-first : (p : Param) (byte : ℕ) → BeginsParam p byte → eqb byte 41 ≡ false
open-first dollar byte is = rw is refl
open-first star byte is = rw is refl
open-first (whole z) byte is = number-differs byte 41 is (omega arith)
open-first (real d) byte is = number-differs byte 41 is (omega arith)
open-first (text chars) byte is = rw is refl
open-first (name n) byte is = rw is refl
open-first (item word) byte is = rw is refl
open-first (bits value) byte is = rw is refl
open-first (list ps) byte is = rw is refl
open-first (typed key p) byte is = key-differs byte 41 is (omega arith) (omega arith)

pub param-first : (p : Param) → IsWritten p → (rest : List ℕ) → is_at_end (param_text p ++ rest) ≡ false
param-first p written rest = at (param_text p) (begins p written)
  where
    at : (bytes : List ℕ) → FirstIs (BeginsParam p) bytes → is_at_end (bytes ++ rest) ≡ false
    at [] is = absurd is
    at (byte ∷ bytes) is = open-first p byte is

-- ---- points

point-append : (xs ys : List ℕ) → has_point (xs ++ ys) ≡ (has_point xs || has_point ys)
point-append [] ys = refl
point-append (x ∷ xs) ys = by_test (eqb x 46) (point-append xs ys)
  where
    by_test : (b : Bool) → has_point (xs ++ ys) ≡ (has_point xs || has_point ys)
        → (b || has_point (xs ++ ys)) ≡ ((b || has_point xs) || has_point ys)
    by_test true more = refl
    by_test false more = more

digits-point : (bytes : List ℕ) → AllDigits bytes → has_point bytes ≡ false
digits-point [] are = refl
digits-point (byte ∷ bytes) are = let h = are.0 in let one : eqb byte 46 ≡ false = ne_eqb byte 46 (λ e. omega (arith, h, e)) in
    rw one (digits-point bytes are.1)

plain-point : (n : ℕ) → has_point (plain_digits n) ≡ false
plain-point n = digits-point (plain_digits n) (plain_are_digits (plain_digits n) (plain_digits_are n).0)

whole-point : (z : ℤ) → has_point (whole_spelling z ++ []) ≡ false
whole-point (pos n) = point-append (plain_digits n) [] ∙ rw (plain-point n) refl
whole-point (negsuc n) = point-append (plain_digits (suc n)) [] ∙ rw (plain-point (suc n)) refl

or-last : (b : Bool) → (b || true) ≡ true
or-last true = refl
or-last false = refl

pointed-point : (bytes rest : List ℕ) → has_point (digits_with_point bytes ++ rest) ≡ true
pointed-point [] rest = refl
pointed-point (digit ∷ bytes) rest = or-last (eqb digit 46)

real-point : (z : ℤ) (bytes rest : List ℕ) → has_point ((minus_bytes z ++ (digits_with_point bytes ++ rest)) ++ []) ≡ true
real-point z bytes rest = point-append (minus_bytes z ++ (digits_with_point bytes ++ rest)) []
    ∙ ap (λ b. b || false) (point-append (minus_bytes z) _ ∙ ap (λ b. has_point (minus_bytes z) || b) (pointed-point bytes rest)
    ∙ or-last (has_point (minus_bytes z)))

-- ---- kinds

number-test : (byte : ℕ) → BeginsNumber byte → (eqb byte 45 || is_digit byte) ≡ true
number-test byte (inl h) = rw h refl
number-test byte (inr h) = by_test (eqb byte 45)
  where
    by_test : (b : Bool) → (b || is_digit byte) ≡ true
    by_test true = refl
    by_test false = grind (arith, nat_tests)

number-kind : (byte : ℕ) (point : Bool) → BeginsNumber byte → eqb byte 46 ≡ false → kind_by byte point ≡ cond point kind.Real kind.Whole
number-kind byte point is dot =
    let a : eqb byte 36 ≡ false = number-differs byte 36 is (omega arith) in
    let b : eqb byte 42 ≡ false = number-differs byte 42 is (omega arith) in
    let c : eqb byte 39 ≡ false = number-differs byte 39 is (omega arith) in
    let d : eqb byte 34 ≡ false = number-differs byte 34 is (omega arith) in
    let e : eqb byte 35 ≡ false = number-differs byte 35 is (omega arith) in
    let f : eqb byte 40 ≡ false = number-differs byte 40 is (omega arith) in
    let g = number-test byte is in
    rw (a, b, c, dot, d, e, f, g) refl

no-dot : (byte : ℕ) → BeginsNumber byte → eqb byte 46 ≡ false
no-dot byte (inl h) = rw h refl
no-dot byte (inr h) = ne_eqb byte 46 (λ e. omega (arith, h, e))

key-test : (byte : ℕ) → BeginsKey byte → (eqb byte 45 || is_digit byte) ≡ false
key-test byte (inl h) = rw h refl
key-test byte (inr (inl h)) = grind (arith, nat_tests)
key-test byte (inr (inr h)) = rw h refl

key-kind : (byte : ℕ) (point : Bool) → BeginsKey byte → kind_by byte point ≡ kind.Typed
key-kind byte point is =
    let a : eqb byte 36 ≡ false = key-differs byte 36 is (omega arith) (omega arith) in
    let b : eqb byte 42 ≡ false = key-differs byte 42 is (omega arith) (omega arith) in
    let c : eqb byte 39 ≡ false = key-differs byte 39 is (omega arith) (omega arith) in
    let d : eqb byte 46 ≡ false = key-differs byte 46 is (omega arith) (omega arith) in
    let e : eqb byte 34 ≡ false = key-differs byte 34 is (omega arith) (omega arith) in
    let f : eqb byte 35 ≡ false = key-differs byte 35 is (omega arith) (omega arith) in
    let g : eqb byte 40 ≡ false = key-differs byte 40 is (omega arith) (omega arith) in
    let h = key-test byte is in
    rw (a, b, c, d, e, f, g, h) refl

kind-at : (p : Param) (byte : ℕ) → BeginsParam p byte → kind_by byte (has_point (param_text p)) ≡ kind_of p
kind-at dollar byte is = rw is refl
kind-at star byte is = rw is refl
kind-at (whole z) byte is = number-kind byte _ is (no-dot byte is) ∙ ap (λ b. cond b kind.Real kind.Whole) (whole-point z)
kind-at (real d) byte is = number-kind byte _ is (no-dot byte is)
    ∙ ap (λ b. cond b kind.Real kind.Whole) (real-point d.significand (plain_digits (nat_abs d.significand))
    (exponent_spelling (normalised_exponent d)))
kind-at (text chars) byte is = rw is refl
kind-at (name n) byte is = rw is refl
kind-at (item word) byte is = rw is refl
kind-at (bits value) byte is = rw is refl
kind-at (list ps) byte is = rw is refl
kind-at (typed key p) byte is = key-kind byte _ is

pub kind-known : (p : Param) (bytes : List ℕ) (first : ℕ) (rest : List ℕ) → IsTextOf bytes p → bytes ≡ first ∷ rest
    → kind_by first (has_point bytes) ≡ kind_of p
kind-known p bytes first rest t is =
    let same : first ∷ rest ≡ param_text p = sym is ∙ t.bytes_are in
    let begun : FirstIs (BeginsParam p) (first ∷ rest) = subst (FirstIs (BeginsParam p)) (sym same) (begins p t.written) in
    ap (λ (xs : List ℕ). kind_by first (has_point xs)) t.bytes_are ∙ kind-at p first begun
