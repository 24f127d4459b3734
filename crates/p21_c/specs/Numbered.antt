-- What the calls of C answer where names of instances don't count.
use Rattle.std.specs.Prelude.{◌≡◌, ◌⊎◌, ℕ, Bool, List, Option, None, Some, Ok, Err}
use Rattle.p21_spec_basics.specs.Limits.{usual}
use Rattle.p21_spec_file.specs.Accepted.{IsAccepted}
use Rattle.p21_spec_numbering.specs.Claim.{IsNumberedFile, NumberingClaim}
use Rattle.p21_spec_numbering.specs.Laws.{ranking_of}
use Rattle.p21_spec_schema.specs.Schema.{Schema}
use Rattle.p21_numbered_file.specs.Comparing.{TellsTexts}
use Rattle.p21_numbered_file.specs.Numbering.{HasNone}
use Rattle.p21_numbered_file.specs.declared.numbering.Unnumbered.{Unnumbered}
use Rattle.p21_numbered_file.specs.declared.numbering.Unnumbered.TheVariants.{Alike, NoMemory, TooLong}
use Rattle.p21_stream_output.specs.Output.{Output, output_text}
use Rattle.p21_stream_statements.specs.declared.fault.Fault.TheVariants.{CanonicalTooLong}
use Rattle.p21_stream_statements.specs.declared.refusal.At.TheVariants.{Statement}
use Rattle.p21_c.specs.Answers.{IsRefusedBy}
use Rattle.p21_c.specs.Contents.{HoldsText}
use Rattle.p21_c.specs.Reports.{accepted_answer, alike_answer, done_answer, file_subject, misused_answer, no_memory_answer, refused_answer, second_subject}
use Rattle.p21_c.specs.declared.answers.Answer.{Answer}
use Rattle.p21_c.specs.declared.contents.Content.{Content}

-- why a file has no numbered file, by the number of the statement behind its last one
abbrev pub unnumbered_answer : Unnumbered → ℕ → Answer
unnumbered_answer (Alike j k) statement = alike_answer j
unnumbered_answer TooLong statement = refused_answer file_subject (record { fault = CanonicalTooLong; at = Statement statement })
unnumbered_answer NoMemory statement = no_memory_answer

-- a text is held, and its counts are answered; or nothing, since there is no memory
abbrev pub HoldsNumbered : Output → Answer → Option Content → Type 0
HoldsNumbered output answer made =
    (HoldsText made (output_text output) × (answer ≡ accepted_answer output))
    ⊎ ((made ≡ None) × (answer ≡ no_memory_answer))

-- the numbered file; or nothing, since the file is refused or has none, or there is no memory
abbrev pub MakesNumbered : Option Schema → List ℕ → Answer → Option Content → Type 0
MakesNumbered None file answer made = (made ≡ None) × (answer ≡ misused_answer)
MakesNumbered (Some s) file answer made =
    NumberingClaim s usual (ranking_of s)
    × (((output : Output) × IsNumberedFile s usual (ranking_of s) file (output_text output) × HoldsNumbered output answer made)
    ⊎ (IsRefusedBy file_subject s file answer × (made ≡ None))
    ⊎ ((fault : Unnumbered) × (statement : ℕ) × HasNone s usual file fault × (answer ≡ unnumbered_answer fault statement) × (made ≡ None)))

-- whether two files mean the same but for the names of their instances; or nothing, since one of them is refused, or neither has a
-- numbered file, or there is no memory
abbrev pub ComparesNumbered : Option Schema → List ℕ → List ℕ → Answer → Option Bool → Type 0
ComparesNumbered None first second answer same = (same ≡ None) × (answer ≡ misused_answer)
ComparesNumbered (Some s) first second answer same =
    NumberingClaim s usual (ranking_of s)
    × (((yes : Bool) × (same ≡ Some yes) × IsAccepted s usual first × IsAccepted s usual second × TellsTexts s usual first second (Ok yes)
    × (answer ≡ done_answer))
    ⊎ (IsRefusedBy file_subject s first answer × (same ≡ None))
    ⊎ (IsAccepted s usual first × IsRefusedBy second_subject s second answer × (same ≡ None))
    ⊎ ((fault : Unnumbered) × (statement : ℕ) × TellsTexts s usual first second (Err fault) × (answer ≡ unnumbered_answer fault statement)
    × (same ≡ None)))
