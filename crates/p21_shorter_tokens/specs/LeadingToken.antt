-- A token that stands at the front of bytes, and what is written of it.
use Rattle.std.specs.Prelude.{◌≡◌, ℕ, ◌≤◌, List, ◌++◌, length, take, drop}
use Rattle.p21_spec_exchange.specs.Spelling.{spelling}
use Rattle.p21_spec_exchange.specs.Token.{Token, Spells, IsFollowed}

-- so many bytes at the front are exactly this token: they spell it, and what stands behind them doesn't go on with it
pub record IsLeadingToken (bytes : List ℕ) (count : ℕ) (token : Token) : Type 0 where
  pub within : count ≤ length bytes
  pub spells : Spells token (take count bytes)
  pub followed : IsFollowed token (take count bytes) (drop count bytes)

-- the token stands there in its canonical spelling
pub record IsCanonicalLeadingToken (bytes : List ℕ) (count : ℕ) (token : Token) : Type 0 where
  pub stands : IsLeadingToken bytes count token
  pub own : take count bytes ≡ spelling token

-- the token stands there, and its canonical spelling is appended
pub record AppendsToken (bytes : List ℕ) (count : ℕ) (token : Token) (old new : List ℕ) : Type 0 where
  pub stands : IsLeadingToken bytes count token
  pub appended : new ≡ old ++ spelling token
