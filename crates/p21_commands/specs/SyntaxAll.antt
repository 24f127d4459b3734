-- What `p21 syntax --all` answers: a text of what a survey finds of a file by itself.
use Rattle.std.specs.Prelude.{Option, ◌≡◌, ◌≢◌, ◌⊎◌, ℕ, List, Bool, true, false, [], ◌∷◌, string_bytes}
use Rattle.std.specs.Io.KnownBytes.{Keeps}
use Rattle.p21_spec_basics.specs.Limits.{usual}
use Rattle.p21_commands.specs.CheckAll.{FailedIf, Gets, has_read_fault, listed_text}
use Rattle.p21_commands.specs.Command.{Fails}
use Rattle.p21_commands.specs.Failures.{Failures, NoneFailed, OneFailed}
use Rattle.p21_commands.specs.Fault.{fault_line}
use Rattle.p21_commands.specs.Status as statuses
use Rattle.p21_commands.specs.Streams.{TextStreams}
use Rattle.p21_commands.specs.Syntax.{IsTold}
use Rattle.p21_commands.specs.Transfer.{Writes}
use Rattle.p21_commands.specs.declared.fault.CommandFault.TheVariants as command
use Rattle.p21_commands.specs.declared.syntax.Details.{Details}
use Rattle.p21_commands.specs.declared.syntax_all.Answer.{Answer}
use Rattle.p21_commands.specs.declared.syntax_all.Answer.TheVariants.{Refused, Told}
use Rattle.p21_stream.specs.Alone.{EndsByRead, ListsAtMost, SurveysAlone}
use Rattle.p21_stream.specs.Survey.{asked_for}
use Rattle.p21_stream.specs.declared.alone.SurveyedAlone.TheVariants as found
use Rattle.p21_stream.specs.declared.listing.Refusals.{Refusals}

-- ---- what it is about

-- a survey finds these refusals of the file by itself, no more than were asked for; the text is their lines and their count
pub record IsSurveyedAlone (most : ℕ) (old new : Option (List ℕ)) (refusals : Refusals) (text : List ℕ) : Type 0 where
  pub surveys : SurveysAlone usual old new (found.Refused refusals)
  pub counted : ListsAtMost (asked_for most) (found.Refused refusals)
  pub text_is : text ≡ listed_text refusals

-- the text is about them, and none of them is a read that failed
abbrev pub IsListedAlone : ℕ → Option (List ℕ) → Option (List ℕ) → List ℕ → Type 0
IsListedAlone most old new text = (refusals : Refusals) × IsSurveyedAlone most old new refusals text
    × (has_read_fault refusals.list.items ≡ false)

-- or the last of them is one
abbrev pub IsUnreadAlone : ℕ → Option (List ℕ) → Option (List ℕ) → List ℕ → Type 0
IsUnreadAlone most old new text = (refusals : Refusals) × IsSurveyedAlone most old new refusals text × EndsByRead (found.Refused refusals)

-- ---- how the command ends

-- One read of the file failed. The fault output gets the text about what was found, or the line of want of memory. The output is as it was
pub record FailsToReadAlone (most : ℕ) (streams : TextStreams) : Type 0 where
  pub text : List ℕ
  pub is_text : IsUnreadAlone most streams.input.before streams.input.behind text ⊎ (text ≡ fault_line command.NoMemory)
  pub gets : Gets text streams.faults
  pub unwritten : Keeps streams.output.before streams.output.behind
  pub failed : OneFailed (streams.input.failures ∷ [])
  pub others : NoneFailed (streams.output.failures ∷ [])

-- no read of the file failed: a fault of memory or of the output, or lines that could not be written
abbrev pub FailsToListAlone : Details → ℕ → TextStreams → Type 0
FailsToListAlone details most streams =
    Fails (IsTold details streams.input.before streams.input.behind) (IsListedAlone most streams.input.before streams.input.behind) []
    streams.output streams.faults × NoneFailed (streams.input.failures ∷ [])

-- by its status, as `EndsListing` says of a file under a schema
pub record EndsListingAlone (details : Details) (most : ℕ) (streams : TextStreams) (answer : ℕ) : Type 0 where
  pub status : (answer ≡ statuses.done) ⊎ (answer ≡ statuses.refused) ⊎ (answer ≡ statuses.failed)
  pub answered : answer ≡ statuses.done
      → Writes (IsTold details streams.input.before streams.input.behind) streams.output.before streams.output.behind
  pub silent : answer ≡ statuses.done → Keeps streams.faults.before streams.faults.behind
  pub refused : answer ≡ statuses.refused
      → Writes (IsListedAlone most streams.input.before streams.input.behind) streams.faults.before streams.faults.behind
  pub unwritten : answer ≡ statuses.refused → Keeps streams.output.before streams.output.behind
  pub failed : answer ≡ statuses.failed → FailsToListAlone details most streams ⊎ FailsToReadAlone most streams
  pub unfailed : answer ≢ statuses.failed
      → NoneFailed (streams.input.failures ∷ streams.output.failures ∷ streams.faults.failures ∷ [])

-- ---- the steps of the command

-- the text, and whether a read failed
abbrev pub IsTextAlone : ℕ → Option (List ℕ) → Option (List ℕ) → List ℕ → Bool → Type 0
IsTextAlone most old new text true = IsUnreadAlone most old new text
IsTextAlone most old new text false = IsListedAlone most old new text

-- what a survey has to say
abbrev pub AnswersAlone : Details → ℕ → Option (List ℕ) → Option (List ℕ) → Answer → Type 0
AnswersAlone details most old new (Told text) = IsTold details old new text.items
AnswersAlone details most old new (Refused said) = IsTextAlone most old new (string_bytes said.lines) said.is_unread

-- whether a call of the reader failed, by the answer
abbrev pub IsReadAloneBy : Failures → Answer → Type 0
IsReadAloneBy file (Told text) = NoneFailed (file ∷ [])
IsReadAloneBy file (Refused said) = FailedIf said.is_unread file
