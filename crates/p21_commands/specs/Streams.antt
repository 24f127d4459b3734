-- The streams of a command: what its readers have left and its writers hold, where that is known, and which of their calls failed.
use Rattle.std.specs.Prelude.{Option, ℕ, List}
use Rattle.p21_stream_io.specs.Watch.{Watch}
use Rattle.p21_commands.specs.Failures.{Failures, failures_of}

-- a reader or a writer: what it has left or holds before a command and behind it, and which of its calls failed
pub record Stream : Type 0 where
  pub before : Option (List ℕ)
  pub behind : Option (List ℕ)
  pub failures : Failures

abbrev pub stream_of : {T : Type 0} → (T → Option (List ℕ)) → Watch T → Watch T → Stream
stream_of bytes old new = record { before = bytes old.inner; behind = bytes new.inner; failures = failures_of old new }

-- those of a command that reads one text
pub record TextStreams : Type 0 where
  pub input : Stream
  pub output : Stream
  pub faults : Stream

-- those of a command that reads a file under a schema
pub record Streams : Type 0 where
  pub schema : Stream
  pub file : Stream
  pub output : Stream
  pub faults : Stream

-- those of a command that reads two files under a schema
pub record PairStreams : Type 0 where
  pub schema : Stream
  pub first : Stream
  pub second : Stream
  pub output : Stream
  pub faults : Stream

-- what a line says of the schema and the file that were read
abbrev pub OfRead : (Option (List ℕ) → Option (List ℕ) → Option (List ℕ) → List ℕ → Type 0) → Streams → List ℕ → Type 0
OfRead IsLine streams line = IsLine streams.schema.before streams.file.before streams.file.behind line
