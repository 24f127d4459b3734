-- What reading a file says of its bytes, where the reader's are known.
use Rattle.std.specs.Prelude.{Option, ◌≤◌, ◌+◌, ◌⊎◌, ℕ, List, length}
use Rattle.std.specs.Io.KnownBytes.{Consumes, IsAtEnd}
use Rattle.p21_spec_basics.specs.Limits.{Limits}
use Rattle.p21_spec_laws.specs.Beside.{IsKeptOfWhole}
use Rattle.p21_spec_laws.specs.Keeping.{Kept}
use Rattle.p21_spec_file.specs.Accepted.{IsAccepted, IsDead}
use Rattle.p21_spec_schema.specs.Schema.{Schema}
use Rattle.p21_stream_statements.specs.declared.fault.Fault.{Fault}
use Rattle.p21_stream_statements.specs.declared.fault.Fault.TheVariants.{Token, NoMemory, Read, Write}
use Rattle.p21_stream_output.specs.Output.{Output}
pub use Rattle.p21_stream_statements.specs.Source.{IsOfBytes}
use Rattle.p21_stream_io.specs.Watch.{one_call_more}
use Rattle.p21_stream.specs.Canonical.{IsCanonicalOutput, IsCounted}
use Rattle.p21_stream.specs.declared.counting.Counted.{Counted}
use Rattle.p21_tokens.specs.Fault.{IsOfTokens}

-- the reader gave these bytes, and has no more
pub record IsReadWhole (old new : Option (List ℕ)) (bytes : List ℕ) : Type 0 where
  pub consumed : Consumes old new bytes
  pub at_end : IsAtEnd new

-- the reader was read to its end, and the bytes that it gave are accepted as this
pub record IsAcceptedInput (s : Schema) (limits : Limits) (old new : Option (List ℕ)) (output : Output) : Type 0 where
  pub bytes : List ℕ
  pub read : IsReadWhole old new bytes
  pub accepted : IsCanonicalOutput s limits bytes output

-- the reader was read to its end, and this is counted of the bytes that it gave, which are accepted
pub record IsCountedInput (s : Schema) (limits : Limits) (old new : Option (List ℕ)) (counted : Counted) : Type 0 where
  pub bytes : List ℕ
  pub read : IsReadWhole old new bytes
  pub is_counted : IsCounted s limits bytes counted

-- the reader was read to its end, and this is kept of the bytes that it gave, which are accepted
pub record IsWholeInput (s : Schema) (limits : Limits) (old new : Option (List ℕ)) (kept : Kept) : Type 0 where
  pub bytes : List ℕ
  pub read : IsReadWhole old new bytes
  pub whole : IsKeptOfWhole s limits bytes kept

-- no more bytes were taken from the reader than a file may have, and one
abbrev pub ConsumesAtMost : Limits → Option (List ℕ) → Option (List ℕ) → Type 0
ConsumesAtMost limits old new = (bytes : List ℕ) × Consumes old new bytes × (length bytes ≤ limits.file_source + 1)

-- nothing that is accepted begins with the bytes that the reader gave; or they are all, and not accepted
pub record IsRefused (s : Schema) (limits : Limits) (old new : Option (List ℕ)) : Type 0 where
  pub bytes : List ℕ
  pub consumed : Consumes old new bytes
  pub refused : IsDead s limits bytes ⊎ (IsAtEnd new × ¬ IsAccepted s limits bytes)

-- what a fault says of the bytes read: the faults of tokens are those of a file, not of a single parameter
abbrev pub RefusesRead : Schema → Limits → Option (List ℕ) → Option (List ℕ) → Fault → Type 0
RefusesRead s limits old new NoMemory = Unit {0}
RefusesRead s limits old new Read = Unit {0}
RefusesRead s limits old new Write = ⊥
RefusesRead s limits old new (Token fault) = IsOfTokens fault × IsRefused s limits old new
RefusesRead s limits old new fault = IsRefused s limits old new

-- the failures of a reader behind a fault: one more where a read failed
abbrev pub read_failures : ℕ → Fault → ℕ
read_failures count Read = one_call_more count
read_failures count fault = count

-- the failures of a writer behind a fault: one more where a write failed
abbrev pub write_failures : ℕ → Fault → ℕ
write_failures count Write = one_call_more count
write_failures count fault = count
