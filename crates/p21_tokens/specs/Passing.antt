-- Whole statements that a lexer passes over: they were read elsewhere, and are as good as given by it (ISO 10303-21, tokens).
use Rattle.std.specs.Prelude.{◌≡◌, ℕ, ◌-◌, min, List, length, None}
use Rattle.p21_spec_basics.specs.History.{extended}
use Rattle.p21_spec_exchange.specs.Laying.{Laid}
use Rattle.p21_spec_exchange.specs.OpenNesting.{EndsWithSemicolon}
use Rattle.p21_spec_exchange.specs.Token.{Token}
use Rattle.p21_tokens_automaton.specs.Reading.{start}
use Rattle.p21_tokens.specs.Held.{Held, state_of}
use Rattle.p21_tokens.specs.Histories.{TokenHistory, IsPendingBehind, Stands, Answers}

-- between two tokens, with no statement open
pub record IsResting (held : Held) : Type 0 where
  pub refused : held.refused ≡ None
  pub start_is : state_of held ≡ start
  pub statement_is : held.statement ≡ 0

-- no call has refused, no byte was seen that has to be offered, and no token byte is pending
pub record IsAtRest (history : TokenHistory) : Type 0 where
  pub refusal : history.refusal ≡ None
  pub seen : history.seen ≡ None
  pub pending : IsPendingBehind history 0

-- so many bytes of whole statements both limits allow, also where one statement has them all
abbrev pub room_of : Held → ℕ
room_of held = min (held.file_limit - held.file) held.statement_limit

-- a call that passed over bytes with these tokens
abbrev pub passing_call : List ℕ → List Token → TokenHistory
passing_call bytes tokens = record { taken = bytes; seen = None; given = tokens; refusal = None }

-- Where as many bytes are whole statements, each history that the lexer stood for goes on by them, with their tokens
-- given
abbrev pub GivesPassed : Held → ℕ → Held → Type 0
GivesPassed old count new =
    (history : TokenHistory) (bytes : List ℕ) (tokens : List Token) → Stands old history → length bytes ≡ count → Laid bytes tokens → EndsWithSemicolon tokens
    → Answers new (extended history (passing_call bytes tokens))
