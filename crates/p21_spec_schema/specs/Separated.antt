-- Lists of lexemes: with commas between them, and names in parentheses (ISO 10303-11, formal definition of EXPRESS).
use Rattle.std.specs.Prelude.{ℕ, List, [], ◌∷◌, ◌++◌, codes}
use Rattle.p21_spec_schema.specs.Express.{Lexeme}
use Rattle.p21_spec_schema.specs.WrittenType.{word, symbols}

-- separated by commas
abbrev pub comma_separated : {A : Type 0} → (A → List Lexeme) → List A → List Lexeme
comma_separated lexemes [] = []
comma_separated lexemes (x ∷ []) = lexemes x
comma_separated lexemes (x ∷ y ∷ xs) = lexemes x ++ symbols (codes ",") ++ comma_separated lexemes (y ∷ xs)

-- `(` name {`,` name} `)`
abbrev pub names_lexemes : List (List ℕ) → List Lexeme
names_lexemes names = symbols (codes "(") ++ comma_separated word names ++ symbols (codes ")")
