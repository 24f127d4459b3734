-- Canonical spellings hold bytes 20 to 7E alone.
use Rattle.std.proofs.Common.{ℕ, ℤ, pos, negsuc, nat_abs, zero, suc, ◌+◌, ◌<◌, List, [], ◌∷◌, map, Bool, true, ◌&&◌, arith, inl, inr, lit≤, subst, sym}
use Rattle.std.specs.Prelude.{codes, false, if◌then◌else◌, nat_lt}
use lib.Dec.{T, leb, leb→le}
use Rattle.std.specs.List.{AllByRecursion as Each}
use Rattle.p21_spec_basics.proofs.Members.{Each-append}
use Rattle.p21_spec_basics.proofs.PlainDigits.{plain_are_digits, plain_digits_are}
use Rattle.p21_spec_basics.specs.Digits.{AllDigits, hex_digit, plain_digits}
use Rattle.p21_spec_basics.proofs.Comparing.{both}
use Rattle.p21_spec_exchange.specs.Token.{IsSpelled, Token, begin, finish, keyword, user_keyword, name, whole, real, text, item, bits, left, right, comma, semicolon, equals, dollar, star}
use Rattle.p21_spec_laws.specs.LineLaws.{LinesAreGraphic}
use Rattle.p21_spec_exchange.proofs.BitSpellings.{bits_spell}
use Rattle.p21_spec_exchange.proofs.Texts.{text_spelling-graphic}
use Rattle.p21_spec_exchange.specs.CanonicalText.{tokens_text}
use Rattle.p21_spec_exchange.specs.Keyword.{IsKeyword, IsKeywordByte, IsUpper}
use Rattle.p21_spec_exchange.specs.Number.{Decimal}
use Rattle.p21_spec_exchange.specs.Spelling.{bits_spelling, exponent_spelling, minus_bytes, normalised_exponent, digits_with_point, spelling, whole_spelling}
use Rattle.p21_spec_exchange.specs.Statement.{statement_tokens}
use Rattle.p21_spec_exchange.specs.Text.{IsGraphic}

upper : (byte : ℕ) → IsUpper byte → IsGraphic byte
upper byte (inl h) = (omega (arith, h), omega (arith, h))
upper byte (inr h) = (omega (arith, h), omega (arith, h))

keyword_byte : (byte : ℕ) → IsKeywordByte byte → IsGraphic byte
keyword_byte byte (inl h) = upper byte h
keyword_byte byte (inr h) = (omega (arith, h), omega (arith, h))

keyword_bytes : (bytes : List ℕ) → Each IsKeywordByte bytes → Each IsGraphic bytes
keyword_bytes [] are = tt
keyword_bytes (byte ∷ bytes) are = (keyword_byte byte are.0, keyword_bytes bytes are.1)

word-graphic : (word : List ℕ) → IsKeyword word → Each IsGraphic word
word-graphic [] is = tt
word-graphic (byte ∷ bytes) is = (upper byte is.0, keyword_bytes bytes is.1)

digits : (bytes : List ℕ) → AllDigits bytes → Each IsGraphic bytes
digits [] are = tt
digits (byte ∷ bytes) are = (let h = are.0 in (omega (arith, h), omega (arith, h)), digits bytes are.1)

plain : (n : ℕ) → Each IsGraphic (plain_digits n)
plain n = digits (plain_digits n) (plain_are_digits (plain_digits n) (plain_digits_are n).0)

whole-graphic : (z : ℤ) → Each IsGraphic (whole_spelling z)
whole-graphic (pos n) = plain n
whole-graphic (negsuc n) = ((lit≤ tt, lit≤ tt), plain (suc n))

pointed-graphic : (bytes : List ℕ) → Each IsGraphic bytes → Each IsGraphic (digits_with_point bytes)
pointed-graphic [] are = ((lit≤ tt, lit≤ tt), tt)
pointed-graphic (digit ∷ bytes) are = (are.0, ((lit≤ tt, lit≤ tt), are.1))

minus-graphic : (z : ℤ) → Each IsGraphic (minus_bytes z)
minus-graphic (pos n) = tt
minus-graphic (negsuc n) = ((lit≤ tt, lit≤ tt), tt)

exponent-graphic : (z : ℤ) → Each IsGraphic (exponent_spelling z)
exponent-graphic (pos zero) = tt
exponent-graphic (pos (suc n)) = ((lit≤ tt, lit≤ tt), whole-graphic (pos (suc n)))
exponent-graphic (negsuc n) = ((lit≤ tt, lit≤ tt), whole-graphic (negsuc n))

real-graphic : (d : Decimal) → Each IsGraphic (spelling (real d))
real-graphic d =
    Each-append IsGraphic (minus_bytes d.significand) _ (minus-graphic d.significand)
    (Each-append IsGraphic (digits_with_point (plain_digits (nat_abs d.significand))) _ (pointed-graphic (plain_digits (nat_abs d.significand)) (plain (nat_abs d.significand))) (exponent-graphic (normalised_exponent d)))

hex_digit-graphic : (n : ℕ) → n < 16 → IsGraphic (hex_digit n)
hex_digit-graphic n below = by_test (nat_lt n 10)
  where
    by_test : (low : Bool) → IsGraphic (if low then 48 + n else 55 + n)
    by_test true = (omega arith, omega (arith, below))
    by_test false = (omega arith, omega (arith, below))

hex_digits-graphic : (values : List ℕ) → Each (λ n. n < 16) values → Each IsGraphic (map hex_digit values)
hex_digits-graphic [] are = tt
hex_digits-graphic (n ∷ values) are = (hex_digit-graphic n are.0, hex_digits-graphic values are.1)

bits-graphic : (value : List Bool) → Each IsGraphic (bits_spelling value)
bits-graphic value =
    let s = bits_spell value in
    let low = s.padding_is in
    subst (Each IsGraphic) (sym s.bytes_are)
    ((lit≤ tt, lit≤ tt), ((omega arith, omega (arith, low)), Each-append IsGraphic (map hex_digit s.hex_values) (34 ∷ []) (hex_digits-graphic s.hex_values s.are_hex_values) ((lit≤ tt, lit≤ tt), tt)))

-- by a test
abbrev are_graphic : List ℕ → Bool
are_graphic [] = true
are_graphic (byte ∷ bytes) = leb 32 byte && (leb byte 126 && are_graphic bytes)

graphic_by : (bytes : List ℕ) → T (are_graphic bytes) → Each IsGraphic bytes
graphic_by [] t = tt
graphic_by (byte ∷ bytes) t =
    let tests = both (leb 32 byte) (leb byte 126 && are_graphic bytes) t in
    let others = both (leb byte 126) (are_graphic bytes) tests.1 in
    ((leb→le 32 byte tests.0, leb→le byte 126 others.0), graphic_by bytes others.1)

spelling-graphic : (token : Token) → IsSpelled token → Each IsGraphic (spelling token)
spelling-graphic begin spelled = graphic_by (codes "ISO-10303-21") tt
spelling-graphic finish spelled = graphic_by (codes "END-ISO-10303-21") tt
spelling-graphic (keyword word) spelled = word-graphic word spelled.1.1
spelling-graphic (user_keyword word) spelled = ((lit≤ tt, lit≤ tt), word-graphic word spelled.1.1)
spelling-graphic (name n) spelled = ((lit≤ tt, lit≤ tt), plain n)
spelling-graphic (whole z) spelled = whole-graphic z
spelling-graphic (real d) spelled = real-graphic d
spelling-graphic (text characters) spelled = text_spelling-graphic characters
spelling-graphic (item word) spelled = ((lit≤ tt, lit≤ tt), Each-append IsGraphic word (46 ∷ []) (word-graphic word spelled.1.1) ((lit≤ tt, lit≤ tt), tt))
spelling-graphic (bits value) spelled = bits-graphic value
spelling-graphic left spelled = ((lit≤ tt, lit≤ tt), tt)
spelling-graphic right spelled = ((lit≤ tt, lit≤ tt), tt)
spelling-graphic comma spelled = ((lit≤ tt, lit≤ tt), tt)
spelling-graphic semicolon spelled = ((lit≤ tt, lit≤ tt), tt)
spelling-graphic equals spelled = ((lit≤ tt, lit≤ tt), tt)
spelling-graphic dollar spelled = ((lit≤ tt, lit≤ tt), tt)
spelling-graphic star spelled = ((lit≤ tt, lit≤ tt), tt)

tokens-graphic : (tokens : List Token) → Each IsSpelled tokens → Each IsGraphic (tokens_text tokens)
tokens-graphic [] spelled = tt
tokens-graphic (token ∷ tokens) spelled = Each-append IsGraphic (spelling token) (tokens_text tokens) (spelling-graphic token spelled.0) (tokens-graphic tokens spelled.1)

pub lines-graphic : LinesAreGraphic
lines-graphic statement written = tokens-graphic (statement_tokens statement) written
