-- The one canonical spelling of each token (this project's own form; each is a spelling of ISO 10303-21, clause 6).
use Rattle.std.specs.Prelude.{ℕ, zero, suc, ◌+◌, ◌-◌, ◌%◌, ◌==◌, ◌&&◌, ◌||◌, ℤ, pos, negsuc, ◌+ℤ◌, nat_abs, Bool, false, List, [], ◌∷◌, ◌++◌, length, map, replicate, codes, nat_lt, nat_le, if◌then◌else◌}
use Rattle.std.specs.List.{flat_map}
use Rattle.p21_spec_basics.specs.Digits.{hex_digit, hex_digits, plain_digits}
use Rattle.p21_spec_exchange.specs.Text.{end_extended}
use Rattle.p21_spec_exchange.specs.Number.{Decimal}
use Rattle.p21_spec_exchange.specs.Token.{Token, begin, bits, comma, dollar, equals, finish, item, keyword, left, name, real, right, semicolon, star, text, user_keyword, whole}

-- an apostrophe or a backslash stands twice, another byte from 20 to 7E as itself, and each other character in an
-- extended directive of its own, with eight hex digits past FFFF
abbrev pub character_spelling : ℕ → List ℕ
character_spelling character =
    if (character == 39) || (character == 92) then character ∷ character ∷ []
    else if nat_le 32 character && nat_lt character 127 then character ∷ []
    else if nat_lt character 65536 then 92 ∷ 88 ∷ 50 ∷ 92 ∷ (hex_digits 4 character ++ end_extended)
    else 92 ∷ 88 ∷ 52 ∷ 92 ∷ (hex_digits 8 character ++ end_extended)

-- the spellings of the characters in turn, between apostrophes
abbrev pub text_spelling : List ℕ → List ℕ
text_spelling characters = 39 ∷ (flat_map character_spelling characters ++ (39 ∷ []))

-- `#`, and the number with no leading zeros
abbrev pub name_spelling : ℕ → List ℕ
name_spelling n = 35 ∷ plain_digits n

-- `-` only before a number that is not zero, and no leading zeros
abbrev pub whole_spelling : ℤ → List ℕ
whole_spelling (pos n) = plain_digits n
whole_spelling (negsuc n) = 45 ∷ plain_digits (suc n)

abbrev pub minus_bytes : ℤ → List ℕ
minus_bytes (pos n) = []
minus_bytes (negsuc n) = 45 ∷ []

-- the first digit, a point, the other digits
abbrev pub digits_with_point : List ℕ → List ℕ
digits_with_point [] = 46 ∷ []
digits_with_point (digit ∷ digits) = digit ∷ 46 ∷ digits

-- `E` and the exponent, unless it is 0
abbrev pub exponent_spelling : ℤ → List ℕ
exponent_spelling (pos zero) = []
exponent_spelling (pos (suc n)) = 69 ∷ whole_spelling (pos (suc n))
exponent_spelling (negsuc n) = 69 ∷ whole_spelling (negsuc n)

-- the exponent where one digit stands before the point
abbrev pub normalised_exponent : Decimal → ℤ
normalised_exponent d = d.exponent +ℤ pos (length (plain_digits (nat_abs d.significand)) - 1)

-- a reduced number; `0.` where it is zero, whose exponent is 0
abbrev pub real_spelling : Decimal → List ℕ
real_spelling d = minus_bytes d.significand ++ (digits_with_point (plain_digits (nat_abs d.significand)) ++ exponent_spelling (normalised_exponent d))

-- how many zero bits fill the first hex digit
abbrev pub padding_of : ℕ → ℕ
padding_of count = (4 - count % 4) % 4

abbrev pub bit_value : Bool → ℕ → ℕ
bit_value bit worth = if bit then worth else 0

-- each four bits as a number, the highest first
abbrev pub hex_values_of : List Bool → List ℕ
hex_values_of (a ∷ b ∷ c ∷ d ∷ rest) = (bit_value a 8 + bit_value b 4 + bit_value c 2 + bit_value d 1) ∷ hex_values_of rest
hex_values_of other = []

abbrev pub bits_spelling : List Bool → List ℕ
bits_spelling value =
    34 ∷ (48 + padding_of (length value)) ∷ (map hex_digit (hex_values_of (replicate (padding_of (length value)) false ++ value)) ++ (34 ∷ []))

-- the one canonical spelling of a token
abbrev pub spelling : Token → List ℕ
spelling begin = codes "ISO-10303-21"
spelling finish = codes "END-ISO-10303-21"
spelling (keyword word) = word
spelling (user_keyword word) = 33 ∷ word
spelling (name n) = name_spelling n
spelling (whole z) = whole_spelling z
spelling (real d) = real_spelling d
spelling (text characters) = text_spelling characters
spelling (item word) = 46 ∷ (word ++ (46 ∷ []))
spelling (bits value) = bits_spelling value
spelling left = codes "("
spelling right = codes ")"
spelling comma = codes ","
spelling semicolon = codes ";"
spelling equals = codes "="
spelling dollar = codes "$"
spelling star = codes "*"
