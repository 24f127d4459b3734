-- Tokens, their spellings, and the byte behind each (ISO 10303-21, clause 6: tokens).
use Rattle.std.specs.Prelude.{◌≡◌, ◌≢◌, ℕ, ℤ, Bool, List, [], ◌∷◌, ◌++◌, codes}
use Rattle.p21_spec_basics.specs.Digits.{IsDigit}
use Rattle.p21_spec_exchange.specs.Number.{Decimal, RealForm, SpellsReal, SpellsWhole, no_exponent}
use Rattle.p21_spec_exchange.specs.Text.{SpellsText}
use Rattle.p21_spec_exchange.specs.Keyword.{IsKeyword, IsKeywordByte}
use Rattle.p21_spec_exchange.specs.Binary.{SpellsBits}
use Rattle.p21_spec_exchange.specs.Name.{SpellsName}

pub data Token : Type 0 where
  begin : Token
  finish : Token
  keyword : List ℕ → Token
  user_keyword : List ℕ → Token
  name : ℕ → Token
  whole : ℤ → Token
  real : Decimal → Token
  text : List ℕ → Token
  item : List ℕ → Token
  bits : List Bool → Token
  left : Token
  right : Token
  comma : Token
  semicolon : Token
  equals : Token
  dollar : Token
  star : Token

-- the bytes of each token: many spellings may belong to one token
abbrev pub Spells : Token → List ℕ → Type 0
Spells begin bytes = bytes ≡ codes "ISO-10303-21"
Spells finish bytes = bytes ≡ codes "END-ISO-10303-21"
Spells (keyword word) bytes = (bytes ≡ word) × IsKeyword word
Spells (user_keyword word) bytes = (bytes ≡ 33 ∷ word) × IsKeyword word
Spells (name n) bytes = SpellsName bytes n
Spells (whole z) bytes = SpellsWhole bytes z
Spells (real d) bytes = SpellsReal bytes d
Spells (text chars) bytes = SpellsText bytes chars
Spells (item word) bytes = (bytes ≡ 46 ∷ (word ++ (46 ∷ []))) × IsKeyword word
Spells (bits value) bytes = SpellsBits bytes value
Spells left bytes = bytes ≡ codes "("
Spells right bytes = bytes ≡ codes ")"
Spells comma bytes = bytes ≡ codes ","
Spells semicolon bytes = bytes ≡ codes ";"
Spells equals bytes = bytes ≡ codes "="
Spells dollar bytes = bytes ≡ codes "$"
Spells star bytes = bytes ≡ codes "*"

-- some bytes spell the token
abbrev pub IsSpelled : Token → Type 0
IsSpelled token = (bytes : List ℕ) × Spells token bytes

-- the spelling is a real with no exponent
abbrev pub HasNoExponent : List ℕ → Type 0
HasNoExponent spelling = (form : RealForm spelling) × (form.power ≡ no_exponent)

-- the byte behind a token's spelling, where there is one: 45 is `-`, 46 `.`, 69 `E` and 39 an apostrophe
abbrev pub MayFollow : Token → List ℕ → ℕ → Type 0
MayFollow begin spelling byte = ¬ IsKeywordByte byte
MayFollow finish spelling byte = ¬ IsKeywordByte byte
MayFollow (keyword word) spelling byte = ¬ IsKeywordByte byte × (byte ≢ 45)
MayFollow (user_keyword word) spelling byte = ¬ IsKeywordByte byte × (byte ≢ 45)
MayFollow (name n) spelling byte = ¬ IsDigit byte
MayFollow (whole z) spelling byte = ¬ IsDigit byte × (byte ≢ 46)
MayFollow (real d) spelling byte = ¬ IsDigit byte × (HasNoExponent spelling → byte ≢ 69)
MayFollow (text chars) spelling byte = byte ≢ 39
MayFollow (item word) spelling byte = Unit {0}
MayFollow (bits value) spelling byte = Unit {0}
MayFollow left spelling byte = Unit {0}
MayFollow right spelling byte = Unit {0}
MayFollow comma spelling byte = Unit {0}
MayFollow semicolon spelling byte = Unit {0}
MayFollow equals spelling byte = Unit {0}
MayFollow dollar spelling byte = Unit {0}
MayFollow star spelling byte = Unit {0}

-- the bytes behind a token's spelling: the end is allowed, and only the first byte counts
abbrev pub IsFollowed : Token → List ℕ → List ℕ → Type 0
IsFollowed token spelling [] = Unit {0}
IsFollowed token spelling (byte ∷ bytes) = MayFollow token spelling byte

-- a token that is known to be whole by its last byte, whatever stands behind it
abbrev pub IsWholeAtOnce : Token → Type 0
IsWholeAtOnce begin = ⊥
IsWholeAtOnce finish = ⊥
IsWholeAtOnce (keyword word) = ⊥
IsWholeAtOnce (user_keyword word) = ⊥
IsWholeAtOnce (name n) = ⊥
IsWholeAtOnce (whole z) = ⊥
IsWholeAtOnce (real d) = ⊥
IsWholeAtOnce (text chars) = ⊥
IsWholeAtOnce (item word) = Unit {0}
IsWholeAtOnce (bits value) = Unit {0}
IsWholeAtOnce left = Unit {0}
IsWholeAtOnce right = Unit {0}
IsWholeAtOnce comma = Unit {0}
IsWholeAtOnce semicolon = Unit {0}
IsWholeAtOnce equals = Unit {0}
IsWholeAtOnce dollar = Unit {0}
IsWholeAtOnce star = Unit {0}

-- a token that is a whole parameter: no part of a list, a key or a statement
abbrev pub IsScalarToken : Token → Type 0
IsScalarToken (name n) = Unit {0}
IsScalarToken (whole z) = Unit {0}
IsScalarToken (real d) = Unit {0}
IsScalarToken (text chars) = Unit {0}
IsScalarToken (item word) = Unit {0}
IsScalarToken (bits value) = Unit {0}
IsScalarToken dollar = Unit {0}
IsScalarToken star = Unit {0}
IsScalarToken begin = ⊥
IsScalarToken finish = ⊥
IsScalarToken (keyword word) = ⊥
IsScalarToken (user_keyword word) = ⊥
IsScalarToken left = ⊥
IsScalarToken right = ⊥
IsScalarToken comma = ⊥
IsScalarToken semicolon = ⊥
IsScalarToken equals = ⊥
