-- Runs of bytes at the front.
use Rattle.std.specs.Prelude.{◌≡◌, ℕ, ◌≤◌, List, length, replicate, take, drop}
use Rattle.p21_spec_basics.specs.Digits.{AllDigits}
use Rattle.p21_spec_exchange.proofs.Forms.{NoDigitFirst}
use Rattle.p21_scan.specs.Digits.{HasNoLeadingZero}

-- so many bytes at the front are digits, and no more of them stand there
pub record IsDigitRun (bytes : List ℕ) (count : ℕ) : Type 0 where
  pub within : count ≤ length bytes
  pub digits : AllDigits (take count bytes)
  pub ends : NoDigitFirst (drop count bytes)

-- so many bytes at the front are digits
pub record AreDigits (bytes : List ℕ) (count : ℕ) : Type 0 where
  pub within : count ≤ length bytes
  pub digits : AllDigits (take count bytes)

-- so many zeros stand at the front, and no more of them
pub record AreLeadingZeros (bytes : List ℕ) (count : ℕ) : Type 0 where
  pub within : count ≤ length bytes
  pub zeros : take count bytes ≡ replicate count 48
  pub first : HasNoLeadingZero (drop count bytes)
