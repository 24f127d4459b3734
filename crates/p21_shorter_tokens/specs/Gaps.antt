-- What stands between tokens.
use Rattle.std.specs.Prelude.{◌≡◌, ℕ, List, [], ◌∷◌, ◌++◌}
use Rattle.p21_spec_exchange.proofs.OneGap.{HasNoSeparator}
use Rattle.p21_spec_exchange.specs.Separator.{IsSeparator, IsSeparatorText, Separator, blank, separator_bytes}

-- separators stand at the front, and behind them what begins with none
pub record PassesSeparators (bytes rest : List ℕ) : Type 0 where
  pub gap : List ℕ
  pub bytes_are : bytes ≡ gap ++ rest
  pub is_gap : IsSeparatorText gap
  pub ends : HasNoSeparator rest

-- one separator stands at the front
pub record PassesSeparator (bytes rest : List ℕ) : Type 0 where
  pub separator : Separator
  pub is : IsSeparator separator
  pub bytes_are : bytes ≡ separator_bytes separator ++ rest

-- one blank stands at the front
pub record PassesBlank (bytes rest : List ℕ) : Type 0 where
  pub byte : ℕ
  pub is : IsSeparator (blank byte)
  pub bytes_are : bytes ≡ byte ∷ rest

-- the bytes do not begin with a blank
abbrev pub HasNoLeadingBlank : List ℕ → Type 0
HasNoLeadingBlank [] = Unit {0}
HasNoLeadingBlank (byte ∷ bytes) = IsSeparator (blank byte) → ⊥

-- a comment with this inside stands at the front
abbrev pub BeginsComment : List ℕ → List ℕ → List ℕ → Type 0
BeginsComment inside bytes rest = bytes ≡ 47 ∷ 42 ∷ (inside ++ (42 ∷ 47 ∷ rest))
