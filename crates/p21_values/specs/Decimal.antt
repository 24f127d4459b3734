-- What a decimal is, and what its readers owe.
use Rattle.std.specs.Prelude.{ℕ, Bool, Result, Ok, Err, List}
use Rattle.std.specs.Ordering.{eq_of_both, int_eq, on}
use Rattle.p21_spec_exchange.specs.Number.{Decimal, IsInRange, IsReduced, Ratio, RealForm, SameRatio, SpellsReal, ratio_of}
use Rattle.p21_values.specs.declared.fault.ValueFault.{ValueFault}
use Rattle.p21_values.specs.declared.fault.ValueFault.TheVariants.{BadNumber, NoMemory, NumberRange}

-- what a `Decimal` holds: a reduced number in range
pub record IsDecimal (d : Decimal) : Type 0 where
  pub reduced : IsReduced d
  pub in_range : IsInRange (ratio_of d)

-- the significands and the exponents are equal
abbrev pub decimal_eq : Decimal → Decimal → Bool
decimal_eq = eq_of_both (on (λ d. d.significand) int_eq) (on (λ d. d.exponent) int_eq)

-- the number that the bytes spell; else they have no form of a real, or one that is out of range
abbrev pub ReadsReal : List ℕ → Result Decimal ValueFault → Type 0
ReadsReal bytes (Ok value) = SpellsReal bytes value
ReadsReal bytes (Err NoMemory) = Unit {0}
ReadsReal bytes (Err BadNumber) = RealForm bytes → ⊥
ReadsReal bytes (Err NumberRange) = RealForm bytes × ((value : Decimal) → SpellsReal bytes value → ⊥)
ReadsReal bytes (Err fault) = ⊥

-- the reduced number of the ratio, which is in range; else it is not
abbrev pub ReducesRatio : Ratio → Result Decimal ValueFault → Type 0
ReducesRatio ratio (Ok value) = IsReduced value × IsInRange ratio × SameRatio ratio (ratio_of value)
ReducesRatio ratio (Err NoMemory) = Unit {0}
ReducesRatio ratio (Err NumberRange) = IsInRange ratio → ⊥
ReducesRatio ratio (Err fault) = ⊥
