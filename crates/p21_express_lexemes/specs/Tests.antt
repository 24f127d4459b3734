-- What a test of a lexeme says.
use Rattle.std.specs.Prelude.{◌≡◌, Bool, Option, Some, None, if◌then◌else◌}
use Rattle.p21_spec_schema.specs.Express.{Lexeme as ExpressLexeme}
use Rattle.p21_express_lexemes.specs.Meaning.{Means}
use Rattle.p21_express_lexemes.specs.Taking.{Items, with_rest}
use Rattle.p21_express_lexemes.specs.declared.fault.SyntaxFault.{SyntaxFault}
use Rattle.p21_express_lexemes.specs.declared.lexeme.Lexeme.{Lexeme}

-- the test is true of the lexemes that are taken
abbrev pub IsTest : Bool → Lexeme → (ExpressLexeme → Items → Option Items) → Type 0
IsTest answer lexeme taken = (meant : ExpressLexeme) → Means lexeme meant → (rest : Items) → taken meant rest ≡ (if answer then Some rest else None)

-- what the lexeme has, if it is of the kind that is taken
abbrev pub IsContent : {A : Type 0} → Option A → Lexeme → (ExpressLexeme → Items → Option (A × Items)) → Type 0
IsContent content lexeme taken = (meant : ExpressLexeme) → Means lexeme meant → (rest : Items) → taken meant rest ≡ with_rest content rest

-- the refusal that the lexeme shows
abbrev pub IsShown : SyntaxFault → Lexeme → (ExpressLexeme → SyntaxFault) → Type 0
IsShown fault lexeme shown = (meant : ExpressLexeme) → Means lexeme meant → fault ≡ shown meant
