-- Which token is found: one that is known, or one of a kind that its bytes spell.
use Rattle.std.specs.Prelude.{◌≡◌, ◌≢◌, ℕ, List, [], ◌∷◌}
use Rattle.p21_spec_basics.specs.Digits.{IsDigit}
use Rattle.p21_spec_exchange.specs.Token.{Token, keyword as keyword_token, user_keyword as user_keyword_token, whole as whole_token, real as real_token, item as item_token, bits as bits_token, Spells, HasNoExponent}
use Rattle.p21_spec_exchange.specs.Laying.{Lexeme}
use Rattle.p21_spec_exchange.specs.Number.{Decimal, RealForm, SpellsReal}
use Rattle.p21_tokens_automaton.specs.Reading.{TokenClass, keyword, user_keyword, whole, real, item, bits, FoundToken, known, spelled, SizedToken}

abbrev pub IsOfTokenClass : TokenClass → Token → Type 0
IsOfTokenClass keyword (keyword_token word) = Unit {0}
IsOfTokenClass user_keyword (user_keyword_token word) = Unit {0}
IsOfTokenClass whole (whole_token number) = Unit {0}
IsOfTokenClass real (real_token number) = Unit {0}
IsOfTokenClass item (item_token word) = Unit {0}
IsOfTokenClass bits (bits_token value) = Unit {0}
IsOfTokenClass kind other = ⊥

abbrev pub Means : FoundToken → Token → Type 0
Means (known token) other = token ≡ other
Means (spelled kind spelling) token = IsOfTokenClass kind token × Spells token spelling

-- what is found of a token and its spelling
abbrev pub found_of : Token → List ℕ → FoundToken
found_of (keyword_token word) spelling = spelled keyword spelling
found_of (user_keyword_token word) spelling = spelled user_keyword spelling
found_of (whole_token number) spelling = spelled whole spelling
found_of (real_token number) spelling = spelled real spelling
found_of (item_token word) spelling = spelled item spelling
found_of (bits_token value) spelling = spelled bits spelling
found_of other spelling = known other

-- the form of a real that is out of range, and a byte with which no real goes on
abbrev pub IsOutOfRange : List ℕ → ℕ → Type 0
IsOutOfRange bytes byte = RealForm bytes × ((value : Decimal) → SpellsReal bytes value → ⊥) × ¬ IsDigit byte × (HasNoExponent bytes → byte ≢ 69)

-- the tokens are found in turn, with the sizes of their spellings
abbrev pub MeanAll : List SizedToken → List Lexeme → Type 0
MeanAll [] [] = Unit {0}
MeanAll [] (lexeme ∷ lexemes) = ⊥
MeanAll (sized ∷ rest) [] = ⊥
MeanAll (sized ∷ rest) (lexeme ∷ lexemes) = Means sized.found lexeme.token × (lexeme.size ≡ sized.size) × MeanAll rest lexemes
