-- What each session keeps to, whatever it was fed.
use Rattle.std.specs.Prelude.{◌≡◌, ◌≤◌, ◌<◌, ◌^◌, Option, None, Some}
use Rattle.p21_spec_laws.specs.Keeping.{Kept, nothing_with}
use Rattle.p21_spec_laws.specs.Stored.{KeptLines}
use Rattle.p21_stream_statements.specs.Source.{IsOfBytes}
use Rattle.p21_stream_statements.specs.declared.refusal.Refusal.{Refusal}
use Rattle.p21_stream_statements.specs.StatementReader as statements
use Rattle.p21_stream_statements.specs.StatementReader.{StatementHistory}
use Rattle.p21_spec_basics.specs.Limits.{Limits}
use Rattle.p21_stream_kept.specs.Steps.{StepKeepsBound}
use Rattle.p21_stream.specs.Held.{SessionHeld}
use Rattle.p21_stream.specs.Session.{IsLive}

-- The limits of the reader are those of the session, and 64 bits count the bytes of a file; the canonical lines and the references that are
-- kept are within them; where no byte was refused, the session stands for some bytes; and a refusal is none of a reader or a writer
pub record IsBounded (held : SessionHeld) : Type 0 where
  pub counted : held.limits.file_source < 2 ^ 64
  pub limits_are : statements.limits_of held.statements ≡ (held.limits.record_source, held.limits.file_source)
  pub kept_within : held.kept.bytes ≤ held.limits.file_canonical
  pub needs_within : held.kept.references ≤ held.limits.file_source
  pub reads : held.refused ≡ None → (reading : StatementHistory) × (reading.seen ≡ None)
      × IsLive held.schema held.limits held.statements held.kept reading
  pub of_bytes : (refusal : Refusal) → held.refused ≡ Some refusal → IsOfBytes refusal.fault

-- the bytes that are kept stay within the limit of a file, and what is kept of lines stays so
abbrev pub StaysWithin : Limits → Kept → Kept → Type 0
StaysWithin limits old new = StepKeepsBound limits old new × (new.lines ≡ old.lines)

-- nothing is taken, whatever will be kept of lines
abbrev pub IsNothing : Kept → Type 0
IsNothing kept = (lines : KeptLines) × (kept ≡ nothing_with lines)

-- this is kept of lines where no byte was refused
abbrev pub KeepsLines : KeptLines → Option Refusal → Kept → Type 0
KeepsLines lines refused kept = refused ≡ None → kept.lines ≡ lines

-- and stays so
abbrev pub StaysKept : Option Refusal → Kept → Option Refusal → Kept → Type 0
StaysKept was old is new = (lines : KeptLines) → KeepsLines lines was old → KeepsLines lines is new
