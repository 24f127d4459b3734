-- The number that hex digits stand for, and the digits that a number has.
use Rattle.std.proofs.Common.{◌≡◌, ℕ, zero, suc, ◌+◌, ◌-◌, ◌*◌, ◌/◌, ◌%◌, ◌^◌, ◌<◌, ◌≤◌, List, [], ◌∷◌, ◌++◌, length, refl, ◌∙◌, arith, length-append, pow-suc}
use Rattle.std.proofs.lemmas.Bool.Decides.{nat_tests}
use Rattle.std.specs.Prelude.{nat_lt, if◌then◌else◌}
use Rattle.std.specs.List.{AllByRecursion as Each}
use Rattle.p21_spec_basics.specs.Digits.{hex_digit, hex_digits}
use Rattle.p21_spec_basics.proofs.Members.{Each-append}

-- the number of the digits, behind digits whose number is n
abbrev pub hex_number_behind : ℕ → List ℕ → ℕ
hex_number_behind n [] = n
hex_number_behind n (digit ∷ digits) = hex_number_behind (n * 16 + (if nat_lt digit 58 then digit - 48 else digit - 55)) digits

last_digit : (n d : ℕ) → d < 16 → n * 16 + (if nat_lt (hex_digit d) 58 then hex_digit d - 48 else hex_digit d - 55) ≡ n * 16 + d
last_digit n d h = grind (arith, nat_tests)

hex_number_behind-last : (digits : List ℕ) (n d : ℕ) → d < 16 → hex_number_behind n (digits ++ (hex_digit d ∷ [])) ≡ hex_number_behind n digits * 16 + d
hex_number_behind-last [] n d h = last_digit n d h
hex_number_behind-last (digit ∷ digits) n d h = hex_number_behind-last digits _ d h

pub hex_number-hex_digits : (count n : ℕ) → n < 16 ^ count → hex_number_behind 0 (hex_digits count n) ≡ n
hex_number-hex_digits zero n h = omega arith
hex_number-hex_digits (suc count) n h =
    let low : n / 16 < 16 ^ count = omega (arith, pow-suc 16 count) in
    let front = hex_number-hex_digits count (n / 16) low in
    let last : hex_number_behind 0 (hex_digits (suc count) n) ≡ hex_number_behind 0 (hex_digits count (n / 16)) * 16 + n % 16 =
    hex_number_behind-last (hex_digits count (n / 16)) 0 (n % 16) (omega arith) in
    omega (arith, front, last)

pub length-hex_digits : (count n : ℕ) → length (hex_digits count n) ≡ count
length-hex_digits zero n = refl
length-hex_digits (suc count) n = length-append (hex_digits count (n / 16)) _ ∙ omega (arith, length-hex_digits count (n / 16))

-- `0` to `9` or `A` to `F`
abbrev pub IsHexDigit : ℕ → Type 0
IsHexDigit byte = (48 ≤ byte) × (byte ≤ 70)

is_hex_digit : (n : ℕ) → n < 16 → IsHexDigit (hex_digit n)
is_hex_digit n h = (grind (arith, nat_tests), grind (arith, nat_tests))

pub are_hex_digits : (count n : ℕ) → Each IsHexDigit (hex_digits count n)
are_hex_digits zero n = tt
are_hex_digits (suc count) n = Each-append IsHexDigit (hex_digits count (n / 16)) _ (are_hex_digits count (n / 16)) (is_hex_digit (n % 16) (omega arith), tt)
