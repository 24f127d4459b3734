-- What `p21 canon --names` and `p21 check --names` write.
use Rattle.std.specs.Prelude.{Option, ◌≡◌, ◌⊎◌, ℕ, List, [], ◌++◌, codes, decimal, length, string_bytes}
use Rattle.p21_spec_basics.specs.Limits.{usual}
use Rattle.p21_commands.specs.Check.{check_answer_line}
use Rattle.p21_commands.specs.Files.{IsAcceptedUnder, IsRefusedUnder}
use Rattle.p21_commands.specs.Load.{DeclaresRead}
use Rattle.p21_commands.specs.Refusals.{IsFaultOf, refusal_line}
use Rattle.p21_commands.specs.declared.fault.CommandFault.{CommandFault}
use Rattle.p21_commands.specs.declared.fault.CommandFault.TheVariants as command
use Rattle.p21_spec_numbering.specs.Claim.{IsNumberedFile}
use Rattle.p21_spec_numbering.specs.Laws.{ranking_of}
use Rattle.p21_spec_schema.specs.Schema.{Schema}
use Rattle.p21_stream.specs.ReaderInput.{IsReadWhole}
use Rattle.p21_stream_numbered.specs.Numbered.{IsAlikeInput, IsLongInput}
use Rattle.p21_stream_numbered.specs.declared.refusal.NumberingRefusal.{NumberingRefusal}
use Rattle.p21_stream_numbered.specs.declared.refusal.NumberingRefusal.TheVariants.{Alike, Refused}
use Rattle.p21_stream_output.specs.Output.{Output, output_text}
use Rattle.p21_stream_statements.specs.declared.fault.Fault.TheVariants.{CanonicalTooLong}
use Rattle.p21_stream_statements.specs.declared.refusal.Refusal.{Refusal}

-- ---- answers

-- the text is the numbered file of what was read under the schema that its reader declares
pub record IsNumberedUnder (schema file_old file_new : Option (List ℕ)) (text : List ℕ) : Type 0 where
  pub declared : Schema
  pub declares : DeclaresRead schema declared
  pub bytes : List ℕ
  pub read : IsReadWhole file_old file_new bytes
  pub numbered : IsNumberedFile declared usual (ranking_of declared) bytes text

-- the line is what `check` says of the file, which has a numbered file
pub record IsCheckedApart (schema file_old file_new : Option (List ℕ)) (line : List ℕ) : Type 0 where
  pub output : Output
  pub accepted : IsAcceptedUnder schema file_old file_new output
  pub line_is : line ≡ check_answer_line (length output.kept) (length (output_text output))
  pub file : List ℕ
  pub numbered : IsNumberedFile accepted.declared usual (ranking_of accepted.declared) accepted.accepted.bytes file

-- ---- refusals

-- a word for the file, `refused 59 Alike in #NAME`, and a line feed
abbrev pub alike_line : List ℕ → ℕ → List ℕ
alike_line file name = file ++ (codes "refused 59 Alike in #" ++ (decimal name ++ codes "\n"))

-- the line, behind a word for the file, names an instance that the model doesn't tell apart from another one
pub record IsAlikeUnder (word : List ℕ) (schema file_old file_new : Option (List ℕ)) (line : List ℕ) : Type 0 where
  pub declared : Schema
  pub declares : DeclaresRead schema declared
  pub one : ℕ
  pub other : ℕ
  pub alike : IsAlikeInput declared usual file_old file_new one other
  pub line_is : line ≡ alike_line word one

-- the line, behind a word for the file, says that its numbered file is too long
pub record IsLongUnder (word : List ℕ) (schema file_old file_new : Option (List ℕ)) (line : List ℕ) : Type 0 where
  pub declared : Schema
  pub declares : DeclaresRead schema declared
  pub refusal : Refusal
  pub fault_is : refusal.fault ≡ CanonicalTooLong
  pub long : IsLongInput declared usual file_old file_new
  pub line_is : line ≡ refusal_line word refusal

-- the line refuses as without `--names`; or the file has no numbered file, and the line says why
abbrev pub IsUnnumberedUnder : Option (List ℕ) → Option (List ℕ) → Option (List ℕ) → List ℕ → Type 0
IsUnnumberedUnder schema file_old file_new line =
    IsRefusedUnder schema file_old file_new line ⊎ (IsLongUnder [] schema file_old file_new line
    ⊎ IsAlikeUnder [] schema file_old file_new line)

-- what a command answers to a refusal; memory may run out for its line
abbrev pub IsFaultOfNames : List ℕ → NumberingRefusal → CommandFault → Type 0
IsFaultOfNames file (Refused refusal) fault = IsFaultOf file refusal fault
IsFaultOfNames file (Alike j k) (command.Refused line) = string_bytes line ≡ alike_line file j
IsFaultOfNames file (Alike j k) command.NoMemory = Unit {0}
IsFaultOfNames file (Alike j k) command.Read = ⊥
IsFaultOfNames file (Alike j k) command.Write = ⊥
