-- A session that is fed what a reader gives.
use Rattle.std.specs.Prelude.{Option, None, ◌≡◌, ◌≤◌, ◌+◌, ℕ, List, length}
use Rattle.std.specs.Io.KnownBytes.{Consumes, IsAtEnd}
use Rattle.p21_stream.specs.ReaderInput.{IsReadWhole, RefusesRead}
use Rattle.p21_stream_statements.specs.declared.fault.Fault.{Fault}
use Rattle.p21_stream.specs.Held.{SessionHeld, limits_of, schema_of}
use Rattle.p21_stream.specs.Histories.{SessionHistory, Stands}

-- these bytes, of which none was refused
abbrev pub taken_history : List ℕ → SessionHistory
taken_history bytes = record { taken = bytes; refusal = None }

-- the reader gave so many bytes, and the session stands for them
pub record IsFedFrom (start now : Option (List ℕ)) (session : SessionHeld) (size : ℕ) : Type 0 where
  pub bytes : List ℕ
  pub consumed : Consumes start now bytes
  pub size_is : length bytes ≡ size
  pub stands : Stands session (taken_history bytes)

-- it gave all of its bytes
pub record IsFedWhole (start now : Option (List ℕ)) (session : SessionHeld) : Type 0 where
  pub bytes : List ℕ
  pub read : IsReadWhole start now bytes
  pub stands : Stands session (taken_history bytes)

-- so many bytes more, none at the end of the reader alone
pub record FeedsMore (old new : Option (List ℕ)) (before after : SessionHeld) (count : ℕ) : Type 0 where
  pub along : (start : Option (List ℕ)) (size : ℕ) → IsFedFrom start old before size → IsFedFrom start new after (size + count)
  pub ended : count ≡ 0 → IsAtEnd new

-- what a fault says of the bytes that the session stood for and the piece
abbrev pub RefusesFedBytes : Option (List ℕ) → Option (List ℕ) → SessionHeld → Fault → Type 0
RefusesFedBytes old new before fault = (start : Option (List ℕ)) (size : ℕ) → IsFedFrom start old before size
    → RefusesRead (schema_of before) (limits_of before) start new fault

-- the same of the bytes of a piece, whichever reader gave them
abbrev pub RefusesPiece : SessionHeld → List ℕ → Fault → Type 0
RefusesPiece before piece fault = (old new : Option (List ℕ)) → Consumes old new piece → RefusesFedBytes old new before fault

-- no more than so many bytes were taken
abbrev pub TakesAtMost : ℕ → Option (List ℕ) → Option (List ℕ) → Type 0
TakesAtMost most old new = (bytes : List ℕ) × Consumes old new bytes × (length bytes ≤ most)
