-- Instance names at the front of bytes, by their digits, and what stands behind them (ISO 10303-21, clause 6: tokens, entity
-- instance name).
use Rattle.std.specs.Prelude.{◌≡◌, ℕ, ◌<◌, List, ◌∷◌, ◌++◌, length}
use Rattle.p21_spec_basics.specs.Digits.{AllDigits}
use Rattle.p21_spec_exchange.proofs.Forms.{NoDigitFirst}

-- `#`, and one digit or more; no digit stands behind them
pub record IsNameAt (bytes digits rest : List ℕ) : Type 0 where
  pub bytes_are : bytes ≡ 35 ∷ (digits ++ rest)
  pub some_digits : 0 < length digits
  pub are_digits : AllDigits digits
  pub ends : NoDigitFirst rest

-- no digit stands behind a `#` at the front
abbrev pub NoNameAt : List ℕ → Type 0
NoNameAt bytes = (digits rest : List ℕ) → IsNameAt bytes digits rest → ⊥
