-- What is written of a file whose refusals are told with their places. What their lines say is tested, and no clause says it.
use Rattle.std.specs.Prelude.{◌≡◌, ◌⊎◌, ℕ, List, [], ◌∷◌, ◌++◌, length, Bool, true, false, Result, Ok, Err}
use Rattle.std.specs.Io.KnownBytes.{Keeps}
use Rattle.p21_commands.specs.Check.{check_answer_line}
use Rattle.p21_commands.specs.CheckAll.{WritesLines, count_line, has_read_fault, listed_count}
use Rattle.p21_commands.specs.Command.{AnswersWith}
use Rattle.p21_commands.specs.Failures.{NoneFailed}
use Rattle.p21_commands.specs.Fault.{Reports}
use Rattle.p21_commands.specs.Refusals.{IsFaultOf}
use Rattle.p21_commands.specs.Streams.{Stream}
use Rattle.p21_commands.specs.Syntax.{syntax_text}
use Rattle.p21_commands.specs.declared.fault.CommandFault.{CommandFault}
use Rattle.p21_commands.specs.declared.fault.CommandFault.TheVariants as command
use Rattle.p21_commands.specs.declared.syntax.Details.{Details}
use Rattle.p21_commands.specs.declared.telling.Form.{Form}
use Rattle.p21_commands.specs.declared.telling.Form.TheVariants.{Text, Json}
use Rattle.p21_stream.specs.declared.alone.SurveyedAlone.{SurveyedAlone}
use Rattle.p21_stream.specs.declared.alone.SurveyedAlone.TheVariants as alone
use Rattle.p21_stream.specs.declared.counting.Counted.{Counted}
use Rattle.p21_stream.specs.declared.listing.Refusals.{Refusals}
use Rattle.p21_stream.specs.declared.listing.Surveyed.{Surveyed}
use Rattle.p21_stream.specs.declared.listing.Surveyed.TheVariants as found
use Rattle.p21_stream.specs.declared.located.Located.{Located}
use Rattle.p21_stream_output.specs.Output.{output_text}
use Rattle.p21_stream_statements.specs.declared.refusal.Refusal.{Refusal}
use Rattle.p21_stream_syntax.specs.declared.well_formed.WellFormed.{WellFormed}

-- a text is written as the answer, or memory ran out for it
abbrev pub AnswersOrLacks : List ℕ → Stream → Stream → ℕ → Type 0
AnswersOrLacks text output faults status =
    AnswersWith text status output faults
    ⊎ (Keeps output.before output.behind × NoneFailed (output.failures ∷ []) × Reports command.NoMemory status faults)

-- the line of a file that is accepted, as `check` writes it
abbrev pub TellsAccepted : ℕ → ℕ → Stream → Stream → ℕ → Type 0
TellsAccepted instances bytes output faults status = AnswersOrLacks (check_answer_line instances bytes) output faults status

-- what is told of a file that is well formed, as `syntax` writes it
abbrev pub TellsWellFormed : Details → WellFormed → Stream → Stream → ℕ → Type 0
TellsWellFormed details well_formed output faults status = AnswersOrLacks (syntax_text details well_formed) output faults status

-- for people the last line counts the refusals, as `check --all` does, where that is asked for
abbrev pub CountsLast : Form → Bool → Refusals → List ℕ → Type 0
CountsLast Text true refusals text = (front : List ℕ) × (text ≡ front ++ count_line (listed_count refusals.list.items) refusals.extent)
CountsLast Text false refusals text = Unit {0}
CountsLast Json counted refusals text = Unit {0}

-- the fault output gets the text about the refusals, or memory ran out for it
abbrev pub WritesRefused : Form → Bool → Refusals → Stream → ℕ → Type 0
WritesRefused form counted refusals faults status =
    ((text : List ℕ) × CountsLast form counted refusals text × WritesLines text (has_read_fault refusals.list.items) faults status)
    ⊎ Reports command.NoMemory status faults

-- what a survey found is told; where something is refused, the output is as it was
abbrev pub TellsSurvey : Form → Surveyed → Stream → Stream → ℕ → Type 0
TellsSurvey form (found.Accepted accepted) output faults status =
    TellsAccepted (length accepted.kept) (length (output_text accepted)) output faults status
TellsSurvey form (found.Refused refusals) output faults status = WritesRefused form true refusals faults status
    × Keeps output.before output.behind × NoneFailed (output.failures ∷ [])

-- the same of a file by itself, whose refusals are counted where that is asked for
abbrev pub TellsAlone : Details → Form → Bool → SurveyedAlone → Stream → Stream → ℕ → Type 0
TellsAlone details form counted (alone.WellFormed well_formed) output faults status =
    TellsWellFormed details well_formed output faults status
TellsAlone details form counted (alone.Refused refusals) output faults status = WritesRefused form counted refusals faults status
    × Keeps output.before output.behind × NoneFailed (output.failures ∷ [])

-- a refusal with a number has a line of its own, unless memory runs out; any other fault has the line that it has by `check`
abbrev pub IsToldBy : CommandFault → CommandFault → Type 0
IsToldBy (command.Refused line) told = ((own : _) × (told ≡ command.Refused own)) ⊎ (told ≡ command.NoMemory)
IsToldBy command.NoMemory told = told ≡ command.NoMemory
IsToldBy command.Read told = told ≡ command.Read
IsToldBy command.Write told = told ≡ command.Write

-- the first refusal of a file is told, and nothing is answered
pub record TellsFirst (refusal : Refusal) (output faults : Stream) (status : ℕ) : Type 0 where
  pub fault : CommandFault
  pub is_fault : IsFaultOf [] refusal fault
  pub told : CommandFault
  pub is_told : IsToldBy fault told
  pub reports : Reports told status faults
  pub unwritten : Keeps output.before output.behind × NoneFailed (output.failures ∷ [])

-- what is found of a file up to its first refusal is told
abbrev pub TellsFound : Result Counted Located → Stream → Stream → ℕ → Type 0
TellsFound (Ok counted) output faults status = TellsAccepted counted.instances counted.bytes output faults status
TellsFound (Err located) output faults status = TellsFirst located.refusal output faults status
