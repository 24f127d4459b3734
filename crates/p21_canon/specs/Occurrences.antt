-- How often a value is among values.
use Rattle.std.specs.Prelude.{ℕ, zero, suc}
use Rattle.p21_spec_file.specs.Value.{Value, Values, no_values, value}
use Rattle.p21_spec_file.specs.SameValue.{Same}

-- the value is the same as so many of the elements
pub data Occurs (v : Value) : Values → ℕ → Type 0 where
  nowhere : Occurs v no_values zero
  once_more : (w : Value) (ws : Values) (n : ℕ) → Same v w → Occurs v ws n → Occurs v (value w ws) (suc n)
  not_here : (w : Value) (ws : Values) (n : ℕ) → ¬ Same v w → Occurs v ws n → Occurs v (value w ws) n
