-- The lexeme that begins with a byte, by its kind.
use Rattle.std.proofs.Common.{◌≡◌, ℕ, true, false, List, [], ◌∷◌, ◌==◌, map, length, drop, get_or, refl, arith}
use Rattle.std.proofs.lemmas.Bool.Decides.{nat_tests}
use Rattle.p21_spec_schema.specs.Express.{identifier, digits, encoded_string, symbol, upper}
use Rattle.p21_express_lexemes.specs.Bytes.{is_of, begins, begins_of, front, behind}
use Rattle.p21_express_lexemes.specs.FirstLexeme.{found, ended, wrong, unquote, simple_of, encoded_of, lexeme_at, lexeme_of}
use Rattle.p21_express_lexemes.specs.declared.bytes.Class.TheVariants.{Letter, Digit, IdentifierByte, Encoded, SymbolByte}

letter_goes_on : (b : ℕ) → is_of Letter b ≡ true → is_of IdentifierByte b ≡ true
unfolding is_of
letter_goes_on b h = rw h refl

pub at_end : (bytes : List ℕ) → (length bytes == 0) ≡ true → lexeme_of bytes ≡ ended
at_end [] none = refl
at_end (b ∷ bytes) none = grind (arith, nat_tests)

pub at_identifier : (bytes : List ℕ) → begins_of Letter bytes ≡ true → lexeme_of bytes ≡ found (identifier (map upper (front IdentifierByte bytes))) (behind IdentifierByte bytes)
unfolding lexeme_at
at_identifier [] h = cc
at_identifier (b ∷ bytes) h = let more = letter_goes_on b h in rw (h, more) refl

pub at_digits : (bytes : List ℕ) → begins_of Letter bytes ≡ false → begins_of Digit bytes ≡ true → lexeme_of bytes ≡ found (digits (front Digit bytes)) (behind Digit bytes)
unfolding lexeme_at
at_digits [] n h = cc
at_digits (b ∷ bytes) n h = rw (n, h) refl

pub at_simple : (bytes : List ℕ) → begins_of Letter bytes ≡ false → begins_of Digit bytes ≡ false → begins 39 bytes ≡ true → lexeme_of bytes ≡ simple_of (unquote false (drop 1 bytes))
unfolding lexeme_at
at_simple [] n m h = cc
at_simple (b ∷ bytes) n m h = rw (n, m, h) refl

pub at_encoded : (bytes : List ℕ) → begins_of Letter bytes ≡ false → begins_of Digit bytes ≡ false → begins 39 bytes ≡ false → begins 34 bytes ≡ true → lexeme_of bytes ≡ encoded_of (front Encoded (drop 1 bytes)) (behind Encoded (drop 1 bytes))
unfolding lexeme_at
at_encoded [] n m k h = cc
at_encoded (b ∷ bytes) n m k h = rw (n, m, k, h) refl

pub at_symbol : (bytes : List ℕ) → begins_of Letter bytes ≡ false → begins_of Digit bytes ≡ false → begins 39 bytes ≡ false → begins 34 bytes ≡ false → begins_of SymbolByte bytes ≡ true
    → lexeme_of bytes ≡ found (symbol (get_or bytes 0 0)) (drop 1 bytes)
unfolding lexeme_at
at_symbol [] n m k l h = cc
at_symbol (b ∷ bytes) n m k l h = rw (n, m, k, l, h) refl

pub at_nothing : (bytes : List ℕ) → (length bytes == 0) ≡ false → begins_of Letter bytes ≡ false → begins_of Digit bytes ≡ false → begins 39 bytes ≡ false → begins 34 bytes ≡ false → begins_of SymbolByte bytes ≡ false
    → lexeme_of bytes ≡ wrong
unfolding lexeme_at
at_nothing [] some n m k l h = cc
at_nothing (b ∷ bytes) some n m k l h = rw (n, m, k, l, h) refl

pub encoded_there : (inside rest : List ℕ) → (length rest == 0) ≡ false → encoded_of inside rest ≡ found (encoded_string inside) (drop 1 rest)
encoded_there inside [] some = cc
encoded_there inside (mark ∷ rest) some = refl
