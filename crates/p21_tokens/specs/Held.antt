-- What a lexer holds between two calls.
use Rattle.std.specs.Prelude.{◌≡◌, ℕ, ◌+◌, ◌≤◌, List, [], Option}
use Rattle.p21_tokens_automaton.specs.declared.mode.Mode.{Mode}
use Rattle.p21_tokens_automaton.specs.Reading.{State}
use Rattle.p21_tokens.specs.declared.fault.TokenFault.{TokenFault}

-- The mode, the pending bytes, the characters and the number of bytes of the open token; the token bytes of the open
-- statement in front of it; the bytes of the file; their limits; and the refusal
pub record Held : Type 0 where
  pub mode : Mode
  pub pending_bytes : List ℕ
  pub characters : List ℕ
  pub size : ℕ
  pub statement : ℕ
  pub file : ℕ
  pub statement_limit : ℕ
  pub file_limit : ℕ
  pub refused : Option TokenFault

-- the token bytes of the open statement
abbrev pub pending_of : Held → ℕ
pending_of held = held.statement + held.size

-- the place in the file behind the bytes taken
abbrev pub place_of : Held → ℕ
place_of held = held.file

-- what a caller may know besides: the fault that was answered, and the limits on a statement and on the file
abbrev pub refusal_of : Held → Option TokenFault
refusal_of held = held.refused

abbrev pub record_limit_of : Held → ℕ
record_limit_of held = held.statement_limit

abbrev pub file_limit_of : Held → ℕ
file_limit_of held = held.file_limit

-- where the states stand
abbrev pub state_of : Held → State
state_of held = record { mode = held.mode; pending_bytes = held.pending_bytes; characters = held.characters; size = held.size }

-- nothing is pending of no bytes
abbrev pub IsEmptyAtSizeZero : ℕ → List ℕ → List ℕ → Type 0
IsEmptyAtSizeZero size pending_bytes characters = size ≡ 0 → (pending_bytes ≡ []) × (characters ≡ [])

-- neither count is past its limit
pub record IsWithin (held : Held) : Type 0 where
  pub statement : pending_of held ≤ held.statement_limit
  pub file : held.file ≤ held.file_limit
