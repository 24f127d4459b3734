-- What the parts of a real stand for (ISO 10303-21, tokens: real).
use Rattle.std.specs.Prelude.{ℕ, ◌+◌, ℤ, Bool, List, ◌++◌, length}
use Rattle.p21_spec_basics.specs.Digits.{number}
use Rattle.p21_spec_exchange.specs.Number.{Ratio, scaled, signed}
use borrow.Author.Differences.{up, down}

-- the digits on both sides of the point as one number, times ten to the exponent less the length of the fraction
abbrev pub digits_ratio : Bool → List ℕ → List ℕ → ℤ → Ratio
digits_ratio negative whole fraction exponent = scaled (signed negative (number (whole ++ fraction))) (up exponent) (length fraction + down exponent)
