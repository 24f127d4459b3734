-- What reading a file by itself says of the bytes that a reader gave, where these are known.
use Rattle.std.specs.Prelude.{Option, ◌≡◌, ◌≤◌, ◌⊎◌, ◌+◌, ℕ, List, ◌++◌, length, Result, Ok, Err}
use Rattle.std.specs.Io.KnownBytes.{Consumes, IsAtEnd}
use Rattle.p21_spec_basics.specs.Limits.{Limits}
use Rattle.p21_spec_syntax.specs.WellFormedFile.{BeginsIllFormed, IsIllFormed}
use Rattle.p21_stream_io.specs.Watch.{one_call_more}
use Rattle.p21_stream_statements.specs.declared.fault.Fault.{Fault}
use Rattle.p21_stream_statements.specs.declared.fault.Fault.TheVariants.{NoMemory, Read, Write}
use Rattle.p21_stream_statements.specs.declared.refusal.Refusal.{Refusal}
use Rattle.p21_stream_statements.specs.Source.{IsOfBytes}
use Rattle.p21_stream_syntax.specs.Given.{kept_of}
use Rattle.p21_stream_syntax.specs.Walk.{HasTaken, IsFoundOf}
use Rattle.p21_stream_syntax.specs.declared.walk.Walk.{Walk}
use Rattle.p21_stream_syntax.specs.declared.well_formed.WellFormed.{WellFormed}

-- the reader gave these bytes, and has no more
pub record IsReadWhole (old new : Option (List ℕ)) (bytes : List ℕ) : Type 0 where
  pub consumed : Consumes old new bytes
  pub at_end : IsAtEnd new

-- no more than so many bytes were taken
abbrev pub TakesAtMost : ℕ → Option (List ℕ) → Option (List ℕ) → Type 0
TakesAtMost most old new = (bytes : List ℕ) × Consumes old new bytes × (length bytes ≤ most)

-- the reader was read to its end, and the bytes that it gave are well formed, with what is found of them
pub record IsWellFormedInput (limits : Limits) (old new : Option (List ℕ)) (found : WellFormed) : Type 0 where
  pub bytes : List ℕ
  pub read : IsReadWhole old new bytes
  pub is_found : IsFoundOf limits bytes found

-- no well-formed file begins with the bytes that the reader gave; or they are all, and not well formed
pub record IsIllFormedInput (limits : Limits) (old new : Option (List ℕ)) : Type 0 where
  pub bytes : List ℕ
  pub consumed : Consumes old new bytes
  pub ill_formed : BeginsIllFormed limits bytes ⊎ (IsAtEnd new × IsIllFormed limits bytes)

-- What a fault says of the bytes read: memory or the reader failed, or they are not well formed. Nothing is written
abbrev pub RefusesSyntax : Limits → Option (List ℕ) → Option (List ℕ) → Fault → Type 0
RefusesSyntax limits old new NoMemory = Unit {0}
RefusesSyntax limits old new Read = Unit {0}
RefusesSyntax limits old new Write = ⊥
RefusesSyntax limits old new fault = IsOfBytes fault × IsIllFormedInput limits old new

-- the failures of a reader behind a fault: one more where a read failed
abbrev pub read_failures : ℕ → Fault → ℕ
read_failures count Read = one_call_more count
read_failures count fault = count

-- ---- while bytes come

-- these bytes are taken by the walk
abbrev pub WalkHasTaken : Limits → Walk → List ℕ → Type 0
WalkHasTaken limits walk bytes = HasTaken limits walk.statements (kept_of walk.given) bytes

-- the reader gave so many bytes, and they are taken
pub record IsReadFrom (limits : Limits) (start now : Option (List ℕ)) (walk : Walk) (size : ℕ) : Type 0 where
  pub bytes : List ℕ
  pub consumed : Consumes start now bytes
  pub size_is : length bytes ≡ size
  pub taken : WalkHasTaken limits walk bytes

-- it gave all of its bytes
pub record IsReadToEnd (limits : Limits) (start now : Option (List ℕ)) (walk : Walk) : Type 0 where
  pub bytes : List ℕ
  pub read : IsReadWhole start now bytes
  pub taken : WalkHasTaken limits walk bytes

-- so many bytes more, none at the end of the reader alone
pub record ReadsMore (limits : Limits) (old new : Option (List ℕ)) (before after : Walk) (count : ℕ) : Type 0 where
  pub along : (start : Option (List ℕ)) (size : ℕ) → IsReadFrom limits start old before size
      → IsReadFrom limits start new after (size + count)
  pub ended : count ≡ 0 → IsAtEnd new

-- what a fault says, wherever the reader began
abbrev pub RefusesMore : Limits → Option (List ℕ) → Option (List ℕ) → Walk → Fault → Type 0
RefusesMore limits old new before fault = (start : Option (List ℕ)) (size : ℕ) → IsReadFrom limits start old before size
    → RefusesSyntax limits start new fault

-- what a piece gives, whichever reader gave it
abbrev pub PieceGives : Limits → Walk → List ℕ → Result (Unit {0}) Refusal → Walk → Type 0
PieceGives limits before piece (Ok done) after = (bytes : List ℕ) → WalkHasTaken limits before bytes
    → WalkHasTaken limits after (bytes ++ piece)
PieceGives limits before piece (Err refusal) after = (old new : Option (List ℕ)) → Consumes old new piece
    → RefusesMore limits old new before refusal.fault
