-- What a reader that is called again and again has taken and answered: a lexer, a parser, a session. None of them
-- stores it. A relation, which each of them has, says for which histories it stands.
use Rattle.std.specs.Prelude.{◌≡◌, List, [], ◌∷◌, ◌++◌, Option, Some, None}

-- the input taken, the one behind it where a call looked at it without taking it, the output given, and the refusal
pub record History (Input Output Fault : Type 0) : Type 0 where
  pub taken : List Input
  pub seen : Option Input
  pub given : List Output
  pub refusal : Option Fault

-- nothing taken, seen, given or refused
abbrev pub empty : {Input Output Fault : Type 0} → History Input Output Fault
empty = record { taken = []; seen = None; given = []; refusal = None }

-- what is seen behind a call: the input that it looked at; a call that took and looked at nothing leaves what was seen
abbrev pub seen_behind : {Input : Type 0} → Option Input → List Input → Option Input → Option Input
seen_behind before [] None = before
seen_behind before [] (Some input) = Some input
seen_behind before (first ∷ rest) looked = looked

-- the first refusal stays
abbrev pub first_refusal : {Fault : Type 0} → Option Fault → Option Fault → Option Fault
first_refusal None later = later
first_refusal (Some fault) later = Some fault

-- the history with a call added, whose own history is what it took, looked at, gave and refused
abbrev pub extended : {Input Output Fault : Type 0} → History Input Output Fault → History Input Output Fault → History Input Output Fault
extended history call = record {
  taken = history.taken ++ call.taken;
  seen = seen_behind history.seen call.taken call.seen;
  given = history.given ++ call.given;
  refusal = first_refusal history.refusal call.refusal;
}

-- what was looked at: the input taken, and the one behind it where there is one
abbrev pub looked_at : {Input Output Fault : Type 0} → History Input Output Fault → List Input
looked_at history = history.taken ++ elim history.seen [ None ↦ [] | Some input ↦ input ∷ [] ]

-- the caller offers first what was seen and not taken
abbrev pub IsOfferedFirst : {Input : Type 0} → Option Input → List Input → Type 0
IsOfferedFirst None piece = Unit {0}
IsOfferedFirst (Some input) [] = Unit {0}
IsOfferedFirst (Some input) (first ∷ rest) = first ≡ input

-- a new reader stands for the empty history
abbrev pub StandsForEmptyHistory : {Value Input Output Fault : Type 0} → (Value → History Input Output Fault → Type 0) → Value → Type 0
StandsForEmptyHistory Stands new = Stands new empty

-- of a reader that stood for a history, a call leaves one that stands for it with the call added
abbrev pub StandsAfterCall : {Value Input Output Fault : Type 0} → (Value → History Input Output Fault → Type 0) → Value → History Input Output Fault → Value → Type 0
StandsAfterCall {Input = Input} {Output = Output} {Fault = Fault} Stands old call new = (history : History Input Output Fault) → Stands old history → Stands new (extended history call)
