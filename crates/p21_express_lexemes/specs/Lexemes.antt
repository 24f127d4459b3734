-- All lexemes of a text, in order: a plain function between the code and the definitions, which nobody has to believe.
use Rattle.std.specs.Prelude.{ℕ, zero, suc, List, [], ◌∷◌, length, map, Option, Some, None}
use Rattle.p21_spec_schema.specs.Express.{Lexeme}
use Rattle.p21_express_lexemes.specs.FirstLexeme.{FirstLexeme, found, ended, wrong, first_lexeme_of}

abbrev pub items : FirstLexeme → (List ℕ → List (Option Lexeme)) → List (Option Lexeme)
items (found lexeme rest) go = Some lexeme ∷ go rest
items ended go = []
items wrong go = None ∷ []

-- at most so many of them
unfoldable pub lexemes_within : ℕ → List ℕ → List (Option Lexeme)
lexemes_within zero bytes = []
lexemes_within (suc count) bytes = items (first_lexeme_of bytes) (λ rest. lexemes_within count rest)

-- a text has no more lexemes than bytes. A None stands where it goes wrong
unfoldable pub lexemes_of : List ℕ → List (Option Lexeme)
lexemes_of bytes = lexemes_within (suc (length bytes)) bytes

-- lexemes, and nothing wrong
abbrev pub as_items : List Lexeme → List (Option Lexeme)
as_items lexemes = map Some lexemes
