-- Keywords and enumeration items at the front of bytes, by their words, and what stands behind them (ISO 10303-21, clause 6:
-- tokens, keyword and enumeration).
use Rattle.std.specs.Prelude.{◌≡◌, ℕ, List, [], ◌∷◌, ◌++◌}
use Rattle.p21_spec_exchange.specs.Keyword.{IsKeyword, IsKeywordByte}
use Rattle.p21_spec_exchange.specs.Spelling.{spelling}
use Rattle.p21_spec_exchange.specs.Token as meaning

-- the canonical spelling of the token, which is one of its spellings, and behind it bytes that may follow it
pub record IsTokenAt (bytes : List ℕ) (token : meaning.Token) (rest : List ℕ) : Type 0 where
  pub bytes_are : bytes ≡ spelling token ++ rest
  pub spells : meaning.Spells token (spelling token)
  pub followed : meaning.IsFollowed token (spelling token) rest

-- no token of this kind stands at the front, whatever its word
abbrev pub NoTokenAt : (List ℕ → meaning.Token) → List ℕ → Type 0
NoTokenAt of bytes = (word rest : List ℕ) → IsTokenAt bytes (of word) rest → ⊥

-- the bytes do not begin with one of a keyword
abbrev pub NoKeywordByteFirst : List ℕ → Type 0
NoKeywordByteFirst [] = Unit {0}
NoKeywordByteFirst (byte ∷ bytes) = ¬ IsKeywordByte byte

-- the characters of a keyword, with none of them behind
pub record IsWordAt (bytes word rest : List ℕ) : Type 0 where
  pub bytes_are : bytes ≡ word ++ rest
  pub is_keyword : IsKeyword word
  pub ends : NoKeywordByteFirst rest

-- the characters of a keyword do not stand at the front
abbrev pub NoWordAt : List ℕ → Type 0
NoWordAt bytes = (word rest : List ℕ) → bytes ≡ word ++ rest → IsKeyword word → ⊥
