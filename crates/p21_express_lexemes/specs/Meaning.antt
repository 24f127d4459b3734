-- What a lexeme of the reader stands for.
use Rattle.std.specs.Prelude.{◌≡◌, ℕ, List, map}
use Rattle.p21_spec_schema.specs.Express.{Lexeme as ExpressLexeme, identifier, digits, simple_string, encoded_string, symbol, upper}
use Rattle.p21_express_lexemes.specs.FirstLexeme.{FirstLexeme as PureFirstLexeme, found, ended, wrong}
use Rattle.p21_express_lexemes.specs.declared.lexeme.Lexeme.{Lexeme}
use Rattle.p21_express_lexemes.specs.declared.lexeme.Lexeme.TheVariants.{Identifier, Digits, SimpleString, EncodedString, Symbol}
use Rattle.p21_express_lexemes.specs.declared.lexeme.FirstLexeme.{FirstLexeme}
use Rattle.p21_express_lexemes.specs.declared.lexeme.FirstLexeme.TheVariants.{Found, Ended, Wrong}

-- what stands in a string isn't kept
abbrev pub Means : Lexeme → ExpressLexeme → Type 0
Means (Identifier bytes) lexeme = lexeme ≡ identifier (map upper bytes.now)
Means (Digits bytes) lexeme = lexeme ≡ digits bytes.now
Means SimpleString lexeme = (inside : List ℕ) × (lexeme ≡ simple_string inside)
Means EncodedString lexeme = (inside : List ℕ) × (lexeme ≡ encoded_string inside)
Means (Symbol byte) lexeme = lexeme ≡ symbol byte

-- an answer of the reader is this front
abbrev pub IsFirstLexeme : PureFirstLexeme → FirstLexeme → Type 0
IsFirstLexeme front (Found lexeme rest) = (meant : ExpressLexeme) × (front ≡ found meant rest.now) × Means lexeme meant
IsFirstLexeme front Ended = front ≡ ended
IsFirstLexeme front Wrong = front ≡ wrong
