-- A token that stands whole at the front of bytes.
use Rattle.std.specs.Prelude.{◌≡◌, ℕ, ◌+◌, ◌≤◌, false, List, ◌∷◌, ◌++◌, take, get_or, slice_get, Option, Some, None, Result, Ok, Err}
use Rattle.p21_spec_exchange.specs.Laying.{count_behind}
use Rattle.p21_spec_exchange.specs.Token as meaning
use Rattle.p21_scan.specs.Bytes.{is_blank}
use Rattle.p21_tokens_automaton.specs.Meaning.{Means}
use Rattle.p21_tokens_automaton.specs.Reading.{State, start, FoundToken, ended_token, single_token, lex}
use Rattle.p21_tokens_automaton.specs.Run.{EachHasAction}
use Rattle.p21_tokens_automaton.specs.Step.{advance}
use Rattle.p21_tokens_automaton.specs.declared.mode.Mode.TheVariants.{Between, Number, Text}
use Rattle.p21_tokens_automaton.specs.declared.mode.NumberMode.{NumberMode}
use Rattle.p21_tokens_automaton.specs.declared.mode.Single.{Single}
use Rattle.p21_tokens_automaton.specs.declared.mode.TextMode.TheVariants.{Inside}
use Rattle.p21_tokens_automaton.specs.declared.mode.Action.TheVariants.{End, Give, Put}
use Rattle.p21_tokens.specs.Held.{Held, pending_of, state_of}
use Rattle.p21_tokens.specs.Token.{meant}
use Rattle.p21_tokens.specs.declared.token.Token.{Token}
use Rattle.p21_values.specs.declared.fault.NoMemory.{NoMemory}

-- so many bytes lead to a state that the byte behind them ends, with this token
pub record ReachesWaitingToken (bytes : List ℕ) (count : ℕ) (token : meaning.Token) : Type 0 where
  pub byte : ℕ
  pub behind : slice_get bytes count ≡ Some byte
  pub state : State
  pub reaches : (rest : List ℕ) → lex start (take count bytes ++ rest) ≡ lex state rest
  pub size_is : state.size ≡ count
  pub found : FoundToken
  pub ended_is : ended_token state ≡ Some found
  pub means : Means found token
  pub ends : advance state.mode byte ≡ End

-- the first byte is a token, or so many lead to one
pub data ReachesToken (bytes : List ℕ) (count : ℕ) (token : meaning.Token) : Type 0 where
  single : (byte : ℕ) (rest : List ℕ) (one : Single) → bytes ≡ byte ∷ rest → count ≡ 1 → advance Between byte ≡ Give one → token ≡ single_token one → ReachesToken bytes count token
  leads : ReachesWaitingToken bytes count token → ReachesToken bytes count token

-- a token to which so many bytes lead, want of memory for one, or none
abbrev pub ReadsWaitingToken : List ℕ → Option (Result (ℕ × Token) NoMemory) → Type 0
ReadsWaitingToken bytes (Some (Ok front)) = ReachesWaitingToken bytes front.0 (meant front.1)
ReadsWaitingToken bytes other = Unit {0}

-- a token at the front; want of memory only for one, and not at a separator; or none
abbrev pub ReadsLeadingToken : List ℕ → Option (Result (ℕ × Token) NoMemory) → Type 0
ReadsLeadingToken bytes (Some (Ok front)) = ReachesToken bytes front.0 (meant front.1)
ReadsLeadingToken bytes (Some (Err fault)) = is_blank (get_or bytes 0 0) ≡ false
ReadsLeadingToken bytes None = Unit {0}

-- the byte ends a number that led to the mode
abbrev pub EndsNumber : NumberMode → ℕ → Type 0
EndsNumber mode byte = advance (Number mode) byte ≡ End

-- so many bytes at the front, each of which is a character of a string
abbrev pub ArePlain : List ℕ → ℕ → Type 0
ArePlain bytes count = EachHasAction (Text Inside) bytes count (λ byte. Put (Text Inside) byte)

-- such a token is taken where nothing is open and the limits allow it, or nothing is
abbrev pub TakesLeadingToken : Held → List ℕ → Option (Result (ℕ × Token) NoMemory) → Held → Type 0
TakesLeadingToken old bytes None new = new ≡ old
TakesLeadingToken old bytes (Some (Err fault)) new = (is_blank (get_or bytes 0 0) ≡ false) × (new ≡ old)
TakesLeadingToken old bytes (Some (Ok front)) new =
    (state_of old ≡ start) × ReachesToken bytes front.0 (meant front.1) × (pending_of old + front.0 ≤ old.statement_limit) × (new ≡ record old { statement = count_behind old.statement (record { token = meant front.1; size = front.0 }); file = old.file + front.0 })
