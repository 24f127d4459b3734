-- What `p21 check --all` answers: a text of what a survey finds of the file.
use Rattle.std.specs.Prelude.{Option, ◌≡◌, ◌≢◌, ◌⊎◌, ℕ, List, Bool, true, false}
use Rattle.std.specs.Prelude.{not, [], ◌∷◌, ◌++◌, if◌then◌else◌, codes, count_by, decimal, flat_map, string_bytes}
use Rattle.std.specs.Io.KnownBytes.{Appends, Keeps}
use Rattle.std.specs.List.{list_any}
use Rattle.p21_spec_basics.specs.Limits.{usual}
use Rattle.p21_commands.specs.Check.{IsChecked}
use Rattle.p21_commands.specs.Command.{Fails}
use Rattle.p21_commands.specs.Failures.{Failures, NoneFailed, OneFailed}
use Rattle.p21_commands.specs.Fault.{fault_line}
use Rattle.p21_commands.specs.Load.{DeclaresRead, IsSchemaRefused}
use Rattle.p21_commands.specs.Refusals.{refusal_line}
use Rattle.p21_commands.specs.Status as statuses
use Rattle.p21_commands.specs.Streams.{OfRead, Stream, Streams}
use Rattle.p21_commands.specs.Transfer.{Writes}
use Rattle.p21_commands.specs.declared.check_all.Answer.{Answer}
use Rattle.p21_commands.specs.declared.check_all.Answer.TheVariants.{Accepted, Refused}
use Rattle.p21_commands.specs.declared.check_all.RefusedLines.{RefusedLines}
use Rattle.p21_commands.specs.declared.fault.CommandFault.TheVariants as command
use Rattle.p21_spec_schema.specs.Schema.{Schema}
use Rattle.p21_stream.specs.Survey.{EndsByRead, ListsAtMost, SurveysInput, asked_for}
use Rattle.p21_stream.specs.declared.listing.Refusals.{Refusals}
use Rattle.p21_stream.specs.declared.listing.Surveyed.TheVariants as found
use Rattle.p21_stream_io.specs.Transfer.{AppendsPartOf}
use Rattle.p21_stream_statements.specs.declared.fault.Fault.{Fault}
use Rattle.p21_stream_statements.specs.declared.fault.Fault.TheVariants.{Read}
use Rattle.p21_stream_statements.specs.declared.refusal.Refusal.{Refusal}
use Rattle.p21_stream_survey.specs.declared.listed.Extent.{Extent}
use Rattle.p21_stream_survey.specs.declared.listed.Extent.TheVariants.{Most, ReadTo, Whole}

-- ---- the text

-- whether the fault is that of a read that failed
abbrev pub is_read : Fault → Bool
is_read Read = true
is_read fault = false

-- whether the list has the refusal of a read that failed
abbrev pub has_read_fault : List Refusal → Bool
has_read_fault list = list_any (λ (refusal : Refusal). is_read refusal.fault) list

-- the line of a refusal; that of a read that failed is the line of a read fault
abbrev pub listed_line : Refusal → List ℕ
listed_line refusal = if is_read refusal.fault then fault_line command.Read else refusal_line [] refusal

-- how many refusals the list has, the one of a read that failed left out
abbrev pub listed_count : List Refusal → ℕ
listed_count list = count_by (λ (refusal : Refusal). not (is_read refusal.fault)) list

-- `refusals N`, how far the file was read where a refusal ended the list, or that no more were looked for, and a line feed
abbrev pub count_line : ℕ → Extent → List ℕ
count_line count Whole = codes "refusals " ++ (decimal count ++ codes "\n")
count_line count (ReadTo bytes) = codes "refusals " ++ (decimal count ++ (codes ", read " ++ (decimal bytes ++ codes " bytes\n")))
count_line count Most = codes "refusals " ++ (decimal count ++ codes ", no more were looked for\n")

-- a line for each refusal, in the order of the list, and the line that counts them
abbrev pub listed_text : Refusals → List ℕ
listed_text refusals = flat_map listed_line refusals.list.items ++ count_line (listed_count refusals.list.items) refusals.extent

-- ---- what it is about

-- under the schema that its reader declares, a survey finds these refusals of the file, no more than were asked for; the text is
-- their lines and their count
pub record IsSurveyed (most : ℕ) (schema file_old file_new : Option (List ℕ)) (refusals : Refusals) (text : List ℕ) : Type 0 where
  pub declared : Schema
  pub declares : DeclaresRead schema declared
  pub surveys : SurveysInput declared usual file_old file_new (found.Refused refusals)
  pub counted : ListsAtMost (asked_for most) (found.Refused refusals)
  pub text_is : text ≡ listed_text refusals

-- the text is about the refusals that a survey finds of the file, none of which is a read that failed
abbrev pub IsListed : ℕ → Option (List ℕ) → Option (List ℕ) → Option (List ℕ) → List ℕ → Type 0
IsListed most schema file_old file_new text = (refusals : Refusals) × IsSurveyed most schema file_old file_new refusals text
    × (has_read_fault refusals.list.items ≡ false)

-- the line is of the schema, and the file isn't read; or the text is about what a survey finds of the file
abbrev pub IsListedUnder : ℕ → Option (List ℕ) → Option (List ℕ) → Option (List ℕ) → List ℕ → Type 0
IsListedUnder most schema file_old file_new text = (IsSchemaRefused schema text × Keeps file_old file_new)
    ⊎ IsListed most schema file_old file_new text

-- the text is about the refusals that a survey finds of the file, of which the last is a read that failed
abbrev pub IsUnread : ℕ → Option (List ℕ) → Option (List ℕ) → Option (List ℕ) → List ℕ → Type 0
IsUnread most schema file_old file_new text = (refusals : Refusals) × IsSurveyed most schema file_old file_new refusals text
    × EndsByRead (found.Refused refusals)

-- ---- a read that failed

-- the writer got the text and didn't fail, or it failed and got only a part of the text
abbrev pub Gets : List ℕ → Stream → Type 0
Gets text writer = (Appends writer.before writer.behind text × NoneFailed (writer.failures ∷ []))
    ⊎ (AppendsPartOf writer.before writer.behind text × OneFailed (writer.failures ∷ []))

-- The fault output gets a text about refusals, by whether a read failed. If one did, the status is that of a failure; else it is that of a
-- refusal, or that of a failure where a write failed
abbrev pub WritesLines : List ℕ → Bool → Stream → ℕ → Type 0
WritesLines text true faults status = (status ≡ statuses.failed) × Gets text faults
WritesLines text false faults status =
    ((status ≡ statuses.refused) × Appends faults.before faults.behind text × NoneFailed (faults.failures ∷ []))
    ⊎ ((status ≡ statuses.failed) × AppendsPartOf faults.before faults.behind text × OneFailed (faults.failures ∷ []))

-- One read of the file failed, and none of the schema: the fault output gets the text about what was found, or the line of want of
-- memory. The output is as it was
pub record FailsToRead (most : ℕ) (streams : Streams) : Type 0 where
  pub text : List ℕ
  pub is_text : OfRead (IsUnread most) streams text ⊎ (text ≡ fault_line command.NoMemory)
  pub gets : Gets text streams.faults
  pub unwritten : Keeps streams.output.before streams.output.behind
  pub failed : OneFailed (streams.file.failures ∷ [])
  pub others : NoneFailed (streams.schema.failures ∷ streams.output.failures ∷ [])

-- no read of the file failed: a fault of memory, of the schema's reader or of the output, or lines that could not be written
abbrev pub FailsToList : ℕ → Streams → Type 0
FailsToList most streams = Fails (OfRead IsChecked streams) (OfRead (IsListedUnder most) streams) (streams.schema.failures ∷ [])
    streams.output streams.faults × NoneFailed (streams.file.failures ∷ [])

-- How the command ends, by its status, as `Ends` says of others; but a read of the file that fails leaves the lines of what was found
pub record EndsListing (most : ℕ) (streams : Streams) (answer : ℕ) : Type 0 where
  pub status : (answer ≡ statuses.done) ⊎ (answer ≡ statuses.refused) ⊎ (answer ≡ statuses.failed)
  pub answered : answer ≡ statuses.done → Writes (OfRead IsChecked streams) streams.output.before streams.output.behind
  pub silent : answer ≡ statuses.done → Keeps streams.faults.before streams.faults.behind
  pub refused : answer ≡ statuses.refused → Writes (OfRead (IsListedUnder most) streams) streams.faults.before streams.faults.behind
  pub unwritten : answer ≡ statuses.refused → Keeps streams.output.before streams.output.behind
  pub failed : answer ≡ statuses.failed → FailsToList most streams ⊎ FailsToRead most streams
  pub unfailed : answer ≢ statuses.failed → NoneFailed
      (streams.schema.failures ∷ streams.file.failures ∷ streams.output.failures ∷ streams.faults.failures ∷ [])

-- ---- the steps of the command

-- the text, and whether a read failed
abbrev pub IsTextOf : ℕ → Option (List ℕ) → Option (List ℕ) → Option (List ℕ) → List ℕ → Bool → Type 0
IsTextOf most schema file_old file_new text true = IsUnread most schema file_old file_new text
IsTextOf most schema file_old file_new text false = IsListed most schema file_old file_new text

-- what a survey has to say
abbrev pub Answers : ℕ → Option (List ℕ) → Option (List ℕ) → Option (List ℕ) → Answer → Type 0
Answers most schema file_old file_new (Accepted line) = IsChecked schema file_old file_new (string_bytes line)
Answers most schema file_old file_new (Refused said) = IsTextOf most schema file_old file_new (string_bytes said.lines) said.is_unread

-- one call of the reader failed, or none
abbrev pub FailedIf : Bool → Failures → Type 0
FailedIf true reader = OneFailed (reader ∷ [])
FailedIf false reader = NoneFailed (reader ∷ [])

-- which of the two by the answer
abbrev pub IsReadBy : Failures → Answer → Type 0
IsReadBy file (Accepted line) = NoneFailed (file ∷ [])
IsReadBy file (Refused said) = FailedIf said.is_unread file

-- the same where memory runs out, which it may behind a read that failed
abbrev pub IsLeftBy : Failures → Type 0
IsLeftBy file = NoneFailed (file ∷ []) ⊎ OneFailed (file ∷ [])

-- the lines are the text of the refusals, and say whether one of these is a read that failed
abbrev pub Lists : Refusals → RefusedLines → Type 0
Lists refusals said = (string_bytes said.lines ≡ listed_text refusals) × (said.is_unread ≡ has_read_fault refusals.list.items)
