-- With which tokens a parser goes on from where it stands (ISO 10303-21, formal definition of the exchange structure).
use Rattle.std.specs.Prelude.{◌≡◌, Bool, true, false, Option, Some, None, Result, Ok, Err}
use Rattle.p21_spec_exchange.specs.Token.{Token}
use Rattle.p21_grammar.specs.Held.{Held}
use Rattle.p21_grammar.specs.Machine.{Move, go, emit, refuse, idle, step}
use Rattle.p21_grammar.specs.Runs.{RunOutcome, run_outcome, run}
use Rattle.p21_grammar.specs.declared.event.Event.{Event}
use Rattle.p21_grammar.specs.declared.fault.GrammarFault.{GrammarFault}
use Rattle.p21_grammar.specs.declared.fault.GrammarFault.TheVariants as fault

-- a refusal of what a token opens or ends, and not of the token
abbrev pub is_of_form : GrammarFault → Bool
is_of_form fault.TooDeep = true
is_of_form fault.HeaderShape = true
is_of_form fault.SectionShape = true
is_of_form other = false

-- A token goes on where it is taken; or it is refused for nothing but its depth, or for the form of the statement that it ends
abbrev pub goes_on : Move → Bool
goes_on (go at_stage spot) = true
goes_on (emit statement at_stage) = true
goes_on (refuse why) = is_of_form why

abbrev pub goes_on_behind : Option RunOutcome → Token → Bool
goes_on_behind None token = false
goes_on_behind (Some (run_outcome given at_stage spot)) token = goes_on (step at_stage spot token)

-- does the token go on with the tokens since the last statement?
abbrev pub could_take : Held → Token → Bool
could_take held token = goes_on_behind (run held.pending held.stage idle) token

-- a parser takes what it could, want of memory apart, and what it refuses for itself is nothing that it could take
abbrev pub TakesWhatItCould : Held → Token → Result (Option Event) GrammarFault → Type 0
TakesWhatItCould old token (Ok event) = could_take old token ≡ true
TakesWhatItCould old token (Err fault.NoMemory) = Unit {0}
TakesWhatItCould old token (Err why) = could_take old token ≡ is_of_form why
