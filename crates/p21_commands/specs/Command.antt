-- How a command ends, and what is left by one that gives no answer.
use Rattle.std.specs.Prelude.{◌≡◌, ◌≢◌, ◌⊎◌, Option, ℕ, List, [], ◌∷◌, ◌++◌, string_bytes}
use Rattle.std.specs.Io.KnownBytes.{Appends, Keeps}
use Rattle.p21_commands.specs.Failures.{Failures, FailedBy, NoneFailed, OneFailed}
use Rattle.p21_commands.specs.Fault.{Reports}
use Rattle.p21_commands.specs.Status as statuses
use Rattle.p21_commands.specs.Streams.{OfRead, Stream, Streams, TextStreams}
use Rattle.p21_commands.specs.Transfer.{Writes, WritesPart}
use Rattle.p21_stream_io.specs.Transfer.{AppendsPartOf}
use Rattle.p21_commands.specs.declared.fault.CommandFault.{CommandFault}
use Rattle.p21_commands.specs.declared.fault.CommandFault.TheVariants.{Refused, NoMemory, Read, Write}

-- a refusal has its line; only a write fault leaves anything in the output, a part of an answer
abbrev pub FailsBy : (List ℕ → Type 0) → (List ℕ → Type 0) → Option (List ℕ) → Option (List ℕ) → CommandFault → Type 0
FailsBy IsAnswer IsRefusal old new (Refused line) = IsRefusal (string_bytes line) × Keeps old new
FailsBy IsAnswer IsRefusal old new NoMemory = Keeps old new
FailsBy IsAnswer IsRefusal old new Read = Keeps old new
FailsBy IsAnswer IsRefusal old new Write = WritesPart IsAnswer old new

-- the output has the answer and no call failed; or it failed and has only a part, and the fault output the line of a write fault
abbrev pub AnswersWith : List ℕ → ℕ → Stream → Stream → Type 0
AnswersWith line status output faults = ((status ≡ statuses.done) × Appends output.before output.behind line
    × Keeps faults.before faults.behind × NoneFailed (output.failures ∷ faults.failures ∷ []))
    ⊎ (AppendsPartOf output.before output.behind line × OneFailed (output.failures ∷ []) × Reports Write status faults)

-- a fault of memory, of a reader or of the output, or a refusal whose line could not be written
pub record Fails (IsAnswer IsRefusal : List ℕ → Type 0) (readers : List Failures) (output faults : Stream) : Type 0 where
  pub fault : CommandFault
  pub fails_by : FailsBy IsAnswer IsRefusal output.before output.behind fault
  pub failed_by : FailedBy readers (output.failures ∷ []) fault
  pub reports : Reports fault statuses.failed faults

-- How a command ends, by its status: the output has an answer more and the fault output is as it was; or the fault output has the
-- line of a refusal more and the output is as it was; or memory ran out, or a call of a reader or a writer failed. With the
-- first two no call failed
pub record Ends (IsAnswer IsRefusal : List ℕ → Type 0) (readers : List Failures) (output faults : Stream) (answer : ℕ) : Type 0 where
  pub status : (answer ≡ statuses.done) ⊎ (answer ≡ statuses.refused) ⊎ (answer ≡ statuses.failed)
  pub answered : answer ≡ statuses.done → Writes IsAnswer output.before output.behind
  pub silent : answer ≡ statuses.done → Keeps faults.before faults.behind
  pub refused : answer ≡ statuses.refused → Writes IsRefusal faults.before faults.behind
  pub unwritten : answer ≡ statuses.refused → Keeps output.before output.behind
  pub failed : answer ≡ statuses.failed → Fails IsAnswer IsRefusal readers output faults
  pub unfailed : answer ≢ statuses.failed → NoneFailed (readers ++ output.failures ∷ faults.failures ∷ [])

-- the same of one that reads a text, by what a line says of the text
abbrev pub EndsOver : (Option (List ℕ) → List ℕ → Type 0) → (Option (List ℕ) → List ℕ → Type 0) → TextStreams → ℕ → Type 0
EndsOver IsAnswer IsRefusal streams answer = Ends (IsAnswer streams.input.before) (IsRefusal streams.input.before)
    (streams.input.failures ∷ []) streams.output streams.faults answer

-- the same of one that reads a file under a schema, by what a line says of both
abbrev pub EndsUnder : (Option (List ℕ) → Option (List ℕ) → Option (List ℕ) → List ℕ → Type 0)
    → (Option (List ℕ) → Option (List ℕ) → Option (List ℕ) → List ℕ → Type 0) → Streams → ℕ → Type 0
EndsUnder IsAnswer IsRefusal streams answer = Ends (OfRead IsAnswer streams) (OfRead IsRefusal streams)
    (streams.schema.failures ∷ streams.file.failures ∷ []) streams.output streams.faults answer
