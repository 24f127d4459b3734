-- The lexemes of bytes, one by one: plain functions between the code and the definitions, which nobody has to believe.
use Rattle.std.specs.Prelude.{ℕ, Bool, true, false, ◌==◌, List, [], ◌∷◌, ◌++◌, map, Option, Some, None, if◌then◌else◌}
use Rattle.p21_spec_schema.specs.Express.{Lexeme, identifier, digits, simple_string, encoded_string, symbol, upper}
use Rattle.p21_express_lexemes.specs.Bytes.{is_of, front, behind}
use Rattle.p21_express_lexemes.specs.Skipping.{between, skip}
use Rattle.p21_express_lexemes.specs.declared.bytes.Class.TheVariants.{Letter, Digit, IdentifierByte, Encoded, SymbolByte}

-- what a front is read as: a lexeme and what is left, the end of the text, or neither
pub data FirstLexeme : Type 0 where
  found : Lexeme → List ℕ → FirstLexeme
  ended : FirstLexeme
  wrong : FirstLexeme

-- what a string has between its marks, and what is left
pub data Quoted : Type 0 where
  quoted : List ℕ → List ℕ → Quoted
  unquoted : Quoted

-- bytes in front of what is between the marks
abbrev pub after : List ℕ → Quoted → Quoted
after bytes (quoted inside rest) = quoted (bytes ++ inside) rest
after bytes unquoted = unquoted

-- behind the first mark of a simple string, or behind an apostrophe in it
unfoldable pub unquote : Bool → List ℕ → Quoted
unquote false [] = unquoted
unquote true [] = quoted [] []
unquote false (byte ∷ bytes) = if byte == 39 then unquote true bytes else after (byte ∷ []) (unquote false bytes)
unquote true (byte ∷ bytes) = if byte == 39 then after (39 ∷ []) (unquote false bytes) else quoted [] (byte ∷ bytes)

abbrev pub simple_of : Quoted → FirstLexeme
simple_of (quoted inside rest) = found (simple_string inside) rest
simple_of unquoted = wrong

-- an encoded string, if its second mark stands there
abbrev pub encoded_of : List ℕ → List ℕ → FirstLexeme
encoded_of inside [] = wrong
encoded_of inside (mark ∷ rest) = found (encoded_string inside) rest

-- the lexeme that begins with this byte
unfoldable pub lexeme_at : ℕ → List ℕ → FirstLexeme
lexeme_at byte bytes =
    if is_of Letter byte then found (identifier (map upper (byte ∷ front IdentifierByte bytes))) (behind IdentifierByte bytes)
    else if is_of Digit byte then found (digits (byte ∷ front Digit bytes)) (behind Digit bytes)
    else if byte == 39 then simple_of (unquote false bytes)
    else if byte == 34 then encoded_of (front Encoded bytes) (behind Encoded bytes)
    else if is_of SymbolByte byte then found (symbol byte) bytes
    else wrong

-- the lexeme that begins with the first byte
abbrev pub lexeme_of : List ℕ → FirstLexeme
lexeme_of [] = ended
lexeme_of (byte ∷ bytes) = lexeme_at byte bytes

abbrev pub first_lexeme_within : Option (List ℕ) → FirstLexeme
first_lexeme_within None = wrong
first_lexeme_within (Some bytes) = lexeme_of bytes

-- the front of the bytes
abbrev pub first_lexeme_of : List ℕ → FirstLexeme
first_lexeme_of bytes = first_lexeme_within (skip between bytes)
