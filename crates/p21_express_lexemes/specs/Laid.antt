-- What an answer of the reader says of the lexemes that are laid in a text.
use Rattle.std.specs.Prelude.{◌≡◌, ℕ, List, [], ◌∷◌}
use Rattle.p21_spec_schema.specs.Express.{Lexeme as ExpressLexeme}
use Rattle.p21_spec_schema.specs.ExpressLaying.{LaidLexemes}
use Rattle.p21_express_lexemes.specs.Meaning.{Means}
use Rattle.p21_express_lexemes.specs.declared.lexeme.FirstLexeme.{FirstLexeme}
use Rattle.p21_express_lexemes.specs.declared.lexeme.FirstLexeme.TheVariants.{Found, Ended, Wrong}

-- The lexemes laid in the text are this one and those laid in the rest
pub record BeginsWith (bytes : List ℕ) (lexeme : ExpressLexeme) (rest : List ℕ) : Type 0 where
  pub complete : (lexemes : List ExpressLexeme) → LaidLexemes lexemes bytes → (more : List ExpressLexeme) × (lexemes ≡ lexeme ∷ more) × LaidLexemes more rest
  pub sound : (more : List ExpressLexeme) → LaidLexemes more rest → LaidLexemes (lexeme ∷ more) bytes

abbrev pub ReadsFirstLexeme : List ℕ → FirstLexeme → Type 0
ReadsFirstLexeme bytes (Found lexeme rest) = (meant : ExpressLexeme) × Means lexeme meant × BeginsWith bytes meant rest.now
ReadsFirstLexeme bytes Ended = LaidLexemes [] bytes × ((lexemes : List ExpressLexeme) → LaidLexemes lexemes bytes → lexemes ≡ [])
ReadsFirstLexeme bytes Wrong = (lexemes : List ExpressLexeme) → LaidLexemes lexemes bytes → ⊥
