-- What a parser holds between two calls.
use Rattle.std.specs.Prelude.{ℕ, List, Option}
use Rattle.p21_spec_exchange.specs.Token.{Token}
use Rattle.p21_grammar.specs.declared.fault.GrammarFault.{GrammarFault}
use Rattle.p21_grammar.specs.declared.stage.Stage.{Stage}

-- How far the statements of the file have come; the tokens since the last statement, and the lists and typed parameters
-- that are open among them; and the refusal
pub record Held : Type 0 where
  pub stage : Stage
  pub pending : List Token
  pub depth : ℕ
  pub refused : Option GrammarFault
