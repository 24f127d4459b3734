-- A number that stands at the front of bytes.
use Rattle.std.specs.Prelude.{ℕ, List}
use Rattle.p21_spec_exchange.specs.Number.{SpellsReal, SpellsWhole}
use Rattle.p21_values.specs.declared.prefix.Number.{Number}
use Rattle.p21_values.specs.declared.prefix.Number.TheVariants.{Whole, Real}

abbrev pub SpellsNumber : List ℕ → Number → Type 0
SpellsNumber bytes (Whole value) = SpellsWhole bytes value
SpellsNumber bytes (Real value) = SpellsReal bytes value
