-- What a survey of a file by itself has to say.
use Rattle.std.proofs.Common.{◌≡◌, ◌⊎◌, ℕ, Bool, List, [], ◌∷◌, Option, String, Global, true, false, inl, inr, refl, subst, sym, string_bytes}
use Rattle.std.proofs.KnownBytes.{Keeps-refl}
use Rattle.p21_spec_basics.specs.Limits.{Limits, usual}
use Rattle.p21_commands.specs.CheckAll.{FailedIf, IsLeftBy, WritesLines, has_read_fault, listed_text}
use Rattle.p21_commands.specs.Command.{Ends}
use Rattle.p21_commands.specs.Failures.{Failures, NoneFailed}
use Rattle.p21_commands.specs.Fault.{Reports, fault_line}
use Rattle.p21_commands.specs.Status.{failed}
use Rattle.p21_commands.specs.Streams.{Stream, TextStreams, stream_of}
use Rattle.p21_commands.specs.Syntax.{IsTold, syntax_text}
use Rattle.p21_commands.specs.SyntaxAll.{EndsListingAlone, FailsToReadAlone, IsListedAlone, IsSurveyedAlone, IsTextAlone}
use Rattle.p21_commands.specs.declared.fault.CommandFault.TheVariants as command
use Rattle.p21_commands.specs.declared.syntax.Details.{Details}
use Rattle.p21_commands.proofs.Reporting.{ends-unanswered}
use Rattle.p21_commands.proofs.Surveys.{memory-fails, memory-gets, none-ends, none-read}
use Rattle.p21_stream.specs.Alone.{EndsByRead, ListsAtMost, SurveysAlone}
use Rattle.p21_stream.specs.Survey.{asked_for}
use Rattle.p21_stream.specs.declared.alone.SurveyedAlone.{SurveyedAlone}
use Rattle.p21_stream.specs.declared.alone.SurveyedAlone.TheVariants as alone
use Rattle.p21_stream.specs.declared.listing.Refusals.{Refusals}
use Rattle.p21_stream_io.specs.Watch.{Watch, one_call_more}
use Rattle.p21_stream_syntax.specs.declared.well_formed.WellFormed.{WellFormed}

-- under the usual limits, of a variant
alone-as : (limits : Limits) (old new : Option (List ℕ)) (found as_ : SurveyedAlone) → limits ≡ usual → found ≡ as_
    → SurveysAlone limits old new found → SurveysAlone usual old new as_
alone-as limits old new found as_ are is surveys =
    subst (λ (l : Limits). SurveysAlone l old new as_) are (subst (λ (f : SurveyedAlone). SurveysAlone limits old new f) is surveys)

pub told-alone : (details : Details) (limits : Limits) (old new : Option (List ℕ)) (found : SurveyedAlone) (well_formed : WellFormed)
    (text : List ℕ) → limits ≡ usual → found ≡ alone.WellFormed well_formed → SurveysAlone limits old new found
    → text ≡ syntax_text details well_formed → IsTold details old new text
told-alone details limits old new found well_formed text are is surveys text_is = record {
  found = well_formed;
  well_formed = alone-as limits old new found (alone.WellFormed well_formed) are is surveys;
  text_is = text_is;
}

-- ---- what is listed

module _ (limits : Limits) (old new : Option (List ℕ)) (found : SurveyedAlone) (refusals : Refusals) (are : limits ≡ usual)
    (is : found ≡ alone.Refused refusals) (surveys : SurveysAlone limits old new found) where
  -- where the list has a read that failed, it ends with it
  alone-ends : has_read_fault refusals.list.items ≡ true → EndsByRead (alone.Refused refusals)
  alone-ends some =
      let (first, lists) = alone-as limits old new found (alone.Refused refusals) are is surveys in
      elim lists.read_is_last [ inl ends ↦ ends | inr none ↦ absurd (none-read refusals.list.items none some) ]

  surveyed-alone : (most : ℕ) (text : List ℕ) → ListsAtMost (asked_for most) found → text ≡ listed_text refusals
      → IsSurveyedAlone most old new refusals text
  surveyed-alone most text counted text_is = record {
    surveys = alone-as limits old new found (alone.Refused refusals) are is surveys;
    counted = subst (ListsAtMost (asked_for most)) is counted;
    text_is = text_is;
  }

  pub text-alone : (most : ℕ) (text : List ℕ) (unread : Bool) → ListsAtMost (asked_for most) found → text ≡ listed_text refusals
      → unread ≡ has_read_fault refusals.list.items → IsTextAlone most old new text unread
  text-alone most text true counted text_is unread_is =
      (refusals, surveyed-alone most text counted text_is, alone-ends (sym unread_is))
  text-alone most text false counted text_is unread_is = (refusals, surveyed-alone most text counted text_is, sym unread_is)

  -- which calls of the reader failed
  pub alone-read : (file : Failures) (unread : Bool) → unread ≡ has_read_fault refusals.list.items → (file.after ≡ file.before)
      ⊎ ((file.after ≡ one_call_more file.before) × EndsByRead found) → (EndsByRead found → file.after ≡ one_call_more file.before)
      → FailedIf unread file
  alone-read file false unread_is (inl same) more = (same, tt)
  alone-read file false unread_is (inr failed_) more = absurd (none-ends refusals (sym unread_is) (subst EndsByRead is failed_.1))
  alone-read file true unread_is calls more = inl (more (subst EndsByRead (sym is) (alone-ends (sym unread_is))), tt)

-- ---- how the command ends

module _ (details : Details) (most : ℕ) (streams : TextStreams) (status : ℕ) where
  -- where no read of the file failed, it ends as others do
  pub alone-listing : Ends (IsTold details streams.input.before streams.input.behind)
      (IsListedAlone most streams.input.before streams.input.behind) [] streams.output streams.faults status
      → NoneFailed (streams.input.failures ∷ []) → EndsListingAlone details most streams status
  alone-listing ends none = record {
    status = ends.status;
    answered = ends.answered;
    silent = ends.silent;
    refused = ends.refused;
    unwritten = ends.unwritten;
    failed = λ e. inl (ends.failed e, none);
    unfailed = λ e. (none.0, ends.unfailed e);
  }

  alone-unread : status ≡ failed → FailsToReadAlone most streams → EndsListingAlone details most streams status
  alone-unread is fails = record {
    status = inr (inr is);
    answered = λ e. cc (is, e);
    silent = λ e. cc (is, e);
    refused = λ e. cc (is, e);
    unwritten = λ e. cc (is, e);
    failed = λ e. inr fails;
    unfailed = λ e. absurd (e is);
  }

-- nothing was written to the output
module _ (details : Details) (most : ℕ) (file faults : Stream) {W : Type 0} (bytes : W → Option (List ℕ)) (writer : Watch W) where
  abbrev pub alone_streams : TextStreams
  alone_streams = record { input = file; output = stream_of bytes writer writer; faults = faults }

  alone-refused : (text : String Global) (status : ℕ) → IsListedAlone most file.before file.behind (string_bytes text)
      → NoneFailed (file.failures ∷ []) → Reports (command.Refused text) status faults → EndsListingAlone details most alone_streams status
  alone-refused text status is none r =
      alone-listing details most alone_streams status
      (ends-unanswered (IsTold details file.before file.behind) (IsListedAlone most file.before file.behind) [] bytes writer faults
      (command.Refused text) status is (tt, tt) r) none

  pub alone-written : (text : String Global) (unread : Bool) (status : ℕ)
      → IsTextAlone most file.before file.behind (string_bytes text) unread → FailedIf unread file.failures
      → WritesLines (string_bytes text) unread faults status → EndsListingAlone details most alone_streams status
  alone-written text false status is none writes = alone-refused text status is none writes
  alone-written text true status is one writes = alone-unread details most alone_streams status writes.0 (record {
    text = string_bytes text;
    is_text = inl is;
    gets = writes.1;
    unwritten = Keeps-refl (bytes writer.inner);
    failed = one;
    others = (refl, tt);
  })

  pub alone-memory : (status : ℕ) → IsLeftBy file.failures → Reports command.NoMemory status faults
      → EndsListingAlone details most alone_streams status
  alone-memory status (inl none) r =
      alone-listing details most alone_streams status
      (ends-unanswered (IsTold details file.before file.behind) (IsListedAlone most file.before file.behind) [] bytes writer faults
      command.NoMemory status tt (tt, tt) r) none
  alone-memory status (inr one) r = alone-unread details most alone_streams status (memory-fails faults status r) (record {
    text = fault_line command.NoMemory;
    is_text = inr refl;
    gets = memory-gets faults status r;
    unwritten = Keeps-refl (bytes writer.inner);
    failed = one;
    others = (refl, tt);
  })
