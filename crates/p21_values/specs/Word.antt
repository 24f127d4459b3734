-- The spelling of a word: its own characters.
use Rattle.std.specs.Prelude.{ℕ, List}
use Rattle.p21_spec_exchange.specs.Token.{Spells, keyword}

abbrev pub SpellsWord : List ℕ → List ℕ → Type 0
SpellsWord bytes word = Spells (keyword word) bytes
