-- The lines of a canonical file laid as their tokens, from the last to the first.
use Rattle.std.proofs.Common.{◌≢◌, ℕ, ◌+◌, Bool, true, ◌&&◌, List, [], ◌∷◌, ◌++◌, length, refl, arith}
use Rattle.std.specs.Prelude.{codes}
use Rattle.std.specs.Char.{IsScalar}
use Rattle.std.specs.List.{AllByRecursion as Each}
use lib.Dec.{T, leb, leb→le}
use Rattle.p21_spec_basics.proofs.Comparing.{both}
use Rattle.p21_spec_exchange.specs.Laying.{Lexeme, LaidAs, count_behind, AreStatementsWithin}
use Rattle.p21_spec_exchange.specs.Spelling.{text_spelling}
use Rattle.p21_spec_exchange.specs.Token.{Token, Spells, IsFollowed, begin, finish, keyword, text, left, right, comma, semicolon}
use Rattle.p21_spec_exchange.proofs.Laying.{lay, lay_on_line, lay_end, is_keyword, keyword_by, left_ends_words, semicolon_ends_words}
use Rattle.p21_spec_exchange.proofs.Texts.{text_spells}

-- bytes with the tokens that are laid in them
pub record Laying : Type 0 where
  pub bytes : List ℕ
  pub lexemes : List Lexeme
  pub laid : LaidAs bytes lexemes

-- the LF of the last line
abbrev pub end : Laying
end = record { bytes = 10 ∷ []; lexemes = []; laid = lay_end }

abbrev pub put : (token : Token) (spelling : List ℕ) → Spells token spelling → (rest : Laying) → IsFollowed token spelling rest.bytes → Laying
put token spelling spells rest followed = record {
  bytes = spelling ++ rest.bytes;
  lexemes = record { token = token; size = length spelling } ∷ rest.lexemes;
  laid = lay token spelling rest.bytes rest.lexemes spells followed rest.laid;
}

abbrev pub put_on_line : (token : Token) (spelling : List ℕ) → Spells token spelling → (rest : Laying) → IsFollowed token spelling rest.bytes → Laying
put_on_line token spelling spells rest followed = record {
  bytes = 10 ∷ (spelling ++ rest.bytes);
  lexemes = record { token = token; size = length spelling } ∷ rest.lexemes;
  laid = lay_on_line token spelling rest.bytes rest.lexemes spells followed rest.laid;
}

abbrev pub put_left : Laying → Laying
put_left rest = put left (codes "(") refl rest (any rest.bytes)
  where
    any : (bytes : List ℕ) → IsFollowed left (codes "(") bytes
    any [] = tt
    any (byte ∷ bytes) = tt

abbrev pub put_right : Laying → Laying
put_right rest = put right (codes ")") refl rest (any rest.bytes)
  where
    any : (bytes : List ℕ) → IsFollowed right (codes ")") bytes
    any [] = tt
    any (byte ∷ bytes) = tt

abbrev pub put_comma : Laying → Laying
put_comma rest = put comma (codes ",") refl rest (any rest.bytes)
  where
    any : (bytes : List ℕ) → IsFollowed comma (codes ",") bytes
    any [] = tt
    any (byte ∷ bytes) = tt

abbrev pub put_semicolon : Laying → Laying
put_semicolon rest = put semicolon (codes ";") refl rest (any rest.bytes)
  where
    any : (bytes : List ℕ) → IsFollowed semicolon (codes ";") bytes
    any [] = tt
    any (byte ∷ bytes) = tt

pub no_dash_left : ◌≢◌ {A = ℕ} 40 45
no_dash_left e = omega (arith, e)

pub no_dash_semicolon : ◌≢◌ {A = ℕ} 59 45
no_dash_semicolon e = omega (arith, e)

pub no_quote_comma : ◌≢◌ {A = ℕ} 44 39
no_quote_comma e = omega (arith, e)

pub no_quote_right : ◌≢◌ {A = ℕ} 41 39
no_quote_right e = omega (arith, e)

-- a keyword on a line of its own, with its `;`
abbrev pub put_section : (word : List ℕ) → T (is_keyword word) → Laying → Laying
put_section word is rest = put_on_line (keyword word) word (refl, keyword_by word is) (put_semicolon rest) (semicolon_ends_words, no_dash_semicolon)

-- a keyword at the beginning of a line, with the parenthesis behind it
abbrev pub put_record : (word : List ℕ) → T (is_keyword word) → Laying → Laying
put_record word is rest = put_on_line (keyword word) word (refl, keyword_by word is) (put_left rest) (left_ends_words, no_dash_left)

-- the first and the last line
abbrev pub put_begin : Laying → Laying
put_begin rest = put begin (codes "ISO-10303-21") refl (put_semicolon rest) semicolon_ends_words

abbrev pub put_finish : Laying → Laying
put_finish rest = put_on_line finish (codes "END-ISO-10303-21") refl (put_semicolon rest) semicolon_ends_words

-- a text with a comma or a parenthesis behind it
abbrev pub put_text_comma : (cs : List ℕ) → Each IsScalar cs → Laying → Laying
put_text_comma cs are rest = put (text cs) (text_spelling cs) (text_spells cs are) (put_comma rest) no_quote_comma

abbrev pub put_text_right : (cs : List ℕ) → Each IsScalar cs → Laying → Laying
put_text_right cs are rest = put (text cs) (text_spelling cs) (text_spells cs are) (put_right rest) no_quote_right

-- statements within a limit, by a test
abbrev pub are_within : ℕ → ℕ → List Lexeme → Bool
are_within most count [] = true
are_within most count (lexeme ∷ lexemes) = leb (count + lexeme.size) most && are_within most (count_behind count lexeme) lexemes

pub within_by : (most count : ℕ) (lexemes : List Lexeme) → T (are_within most count lexemes) → AreStatementsWithin most count lexemes
within_by most count [] t = tt
within_by most count (lexeme ∷ lexemes) t =
    let tests = both (leb (count + lexeme.size) most) (are_within most (count_behind count lexeme) lexemes) t in
    (leb→le (count + lexeme.size) most tests.0, within_by most (count_behind count lexeme) lexemes tests.1)
