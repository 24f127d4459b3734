-- What is received of a file, and why no more is.
use Rattle.std.specs.Prelude.{◌≢◌, ◌≤◌, ℕ, List, Option}
use Rattle.std.specs.Io.KnownBytes.{Consumes, IsAtEnd}
use Rattle.p21_examples.specs.declared.session.Budget.{Budget}
use Rattle.p21_examples.specs.declared.session.Stopped.{Stopped}
use Rattle.p21_examples.specs.declared.session.Stopped.TheVariants.{Refused, TooLarge}
use Rattle.p21_stream.specs.Claim.{IsOpen}
use Rattle.p21_stream.specs.declared.Fault.TheVariants.{NoMemory}
use Rattle.p21_stream.specs.p21_spec_file.Held.{IsHeld}
use Rattle.p21_stream.specs.Held.{SessionHeld}
use Rattle.p21_stream.specs.declared.Held.{Held}
use Rattle.p21_stream.specs.Histories.{SessionHistory}
use Rattle.p21_stream.specs.Inside.{held_of}
use Rattle.p21_stream.specs.p21_spec_basics.Limits.{Limits}
use Rattle.p21_stream.specs.ReaderInput.{IsRefused}
use Rattle.p21_stream.specs.p21_spec_schema.Schema.{Schema}

-- the source gave some bytes, and the session stands for them
pub record IsFed (s : Schema) (limits : Limits) (start now : Option (List ℕ)) (session : SessionHeld) : Type 0 where
  pub history : SessionHistory
  pub given : Consumes start now history.taken
  pub is_open : IsOpen s limits session history

-- the source gave all that it has
pub record IsReceived (s : Schema) (limits : Limits) (start now : Option (List ℕ)) (session : SessionHeld) : Type 0 where
  pub fed : IsFed s limits start now session
  pub at_end : IsAtEnd now

-- this is held of the bytes that the source gave, and the budget doesn't allow it
pub record IsOver (s : Schema) (budget : Budget) (start now : Option (List ℕ)) (held : Held) : Type 0 where
  pub bytes : List ℕ
  pub given : Consumes start now bytes
  pub is_held : IsHeld s bytes (held_of held)
  pub not_allowed : ¬ ((held.pending ≤ budget.pending) × (held.kept ≤ budget.kept))

-- what is known where no file was received
abbrev pub Stops : Schema → Limits → Budget → Option (List ℕ) → Option (List ℕ) → Stopped → Type 0
Stops s limits budget old new (Refused refusal) = refusal.fault ≢ NoMemory → IsRefused s limits old new
Stops s limits budget old new (TooLarge held) = IsOver s budget old new held
Stops s limits budget old new other = Unit {0}
