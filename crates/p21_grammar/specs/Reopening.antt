-- A parser that is taken back to where its last statement ended (ISO 10303-21, formal definition of the exchange structure).
use Rattle.std.specs.Prelude.{◌≡◌, [], Option, Some, None, Result, Ok, Err}
use Rattle.p21_spec_exchange.specs.Token.{Token, semicolon}
use Rattle.p21_grammar.specs.Held.{Held}
use Rattle.p21_grammar.specs.declared.event.Event.{Event}
use Rattle.p21_grammar.specs.declared.fault.GrammarFault.{GrammarFault}
use Rattle.p21_grammar.specs.declared.stage.Stage.{Stage}

-- no statement is open, and nothing was refused
pub record IsBetweenStatements (held : Held) : Type 0 where
  pub refused : held.refused ≡ None
  pub pending : held.pending ≡ []
  pub depth : held.depth ≡ 0

-- what is held there
abbrev pub between_statements : Stage → Held
between_statements stage = record { stage = stage; pending = []; depth = 0; refused = None }

-- a token leaves the parser at its stage, or it is the `;` of a statement
abbrev pub StaysOrEnds : Held → Token → Result (Option Event) GrammarFault → Held → Type 0
StaysOrEnds old token (Ok None) new = new.stage ≡ old.stage
StaysOrEnds old token (Ok (Some event)) new = (token ≡ semicolon) × IsBetweenStatements new
StaysOrEnds old token (Err fault) new = new.stage ≡ old.stage

-- a parser that stood between statements at this stage held the same
abbrev pub HoldsAsBetween : Stage → Held → Type 0
HoldsAsBetween stage new = (earlier : Held) → IsBetweenStatements earlier → earlier.stage ≡ stage → new ≡ earlier
