-- What a report says by its status, for any answers and refusals.
use Rattle.std.specs.Prelude.{Result, Ok, Err, OnOk, OnErr, IfErr}
use Rattle.std.specs.Io.KnownBytes.{Appends, Keeps}
use Rattle.std.proofs.Common.{◌≡◌, ◌≢◌, ◌⊎◌, ℕ, List, [], ◌∷◌, ◌++◌, Option, inl, inr, refl, sym, subst, string_bytes}
use Rattle.std.proofs.KnownBytes.{Keeps-refl}
use Rattle.p21_commands.specs.Command.{AnswersWith, Ends, Fails, FailsBy}
use Rattle.p21_commands.specs.Failures.{Failures, FailedBy, NoneFailed, failures_of}
use Rattle.p21_commands.specs.Fault.{Reports, fault_status}
use Rattle.p21_commands.specs.Refusing.{RefusesWith}
use Rattle.p21_commands.specs.Status.{done, failed, refused}
use Rattle.p21_commands.specs.Streams.{Stream, stream_of}
use Rattle.p21_commands.specs.Transfer.{Writes}
use Rattle.p21_stream_io.specs.Transfer.{AppendsPartOf}
use Rattle.p21_stream_io.specs.Watch.{Watch}
use Rattle.p21_commands.specs.declared.fault.CommandFault.{CommandFault}
use Rattle.p21_commands.specs.declared.fault.CommandFault.TheVariants.{Refused, NoMemory, Read, Write}
use Rattle.p21_commands.proofs.Failing.{before_writing, none_more}

-- a refusal that is written leaves the output as it was
pub refusal-kept : (IsAnswer IsRefusal : List ℕ → Type 0) (output_old output_new : Option (List ℕ)) (faults : Stream) (fault : CommandFault)
    (status : ℕ) → FailsBy IsAnswer IsRefusal output_old output_new fault
    → Reports fault status faults → status ≡ refused → Keeps output_old output_new
refusal-kept IsAnswer IsRefusal output_old output_new faults (Refused line) status f r e = f.1
refusal-kept IsAnswer IsRefusal output_old output_new faults NoMemory status f r e = f
refusal-kept IsAnswer IsRefusal output_old output_new faults Read status f r e = f
refusal-kept IsAnswer IsRefusal output_old output_new faults Write status f (inl r) e = cc (r.0, e)
refusal-kept IsAnswer IsRefusal output_old output_new faults Write status f (inr r) e = cc (r.0, e)

module _ (faults : Stream) where
  pub not_done : (fault : CommandFault) (status : ℕ) → Reports fault status faults → status ≡ done → ⊥
  not_done (Refused line) status (inl r) e = cc (r.0, e)
  not_done (Refused line) status (inr r) e = cc (r.0, e)
  not_done fault status (inl r) e = cc (r.0, e)
  not_done fault status (inr r) e = cc (r.0, e)

  not_refused : (fault : CommandFault) (status : ℕ) → fault_status fault ≡ failed → Reports fault status faults → status ≡ refused → ⊥
  not_refused fault status k (inl r) e = cc (k, r.0, e)
  not_refused fault status k (inr r) e = cc (r.0, e)

  pub reported_status : (fault : CommandFault) (status : ℕ) → Reports fault status faults → (status ≡ refused) ⊎ (status ≡ failed)
  reported_status (Refused line) status (inl r) = inl r.0
  reported_status (Refused line) status (inr r) = inr r.0
  reported_status fault status (inl r) = inr r.0
  reported_status fault status (inr r) = inr r.0

  -- where the status is no failure, no call failed
  pub unfailed : (readers : List Failures) (output : Failures) (fault : CommandFault) (status : ℕ) → FailedBy readers (output ∷ []) fault
      → Reports fault status faults → status ≢ failed → NoneFailed (readers ++ output ∷ faults.failures ∷ [])
  unfailed readers output (Refused line) status f (inl r) e = none_more readers (output ∷ faults.failures ∷ []) f.0 (f.1.0, r.2)
  unfailed readers output (Refused line) status f (inr r) e = absurd (e r.0)
  unfailed readers output fault status f (inl r) e = absurd (e r.0)
  unfailed readers output fault status f (inr r) e = absurd (e r.0)

  module _ (IsAnswer IsRefusal : List ℕ → Type 0) (output : Stream) where
    pub refusal_written : (fault : CommandFault) (status : ℕ) → FailsBy IsAnswer IsRefusal output.before output.behind fault
        → Reports fault status faults → status ≡ refused → Writes IsRefusal faults.before faults.behind
    refusal_written (Refused line) status f (inl r) e = record { line = string_bytes line; is_line = f.0; appended = r.1 }
    refusal_written (Refused line) status f (inr r) e = cc (r.0, e)
    refusal_written fault status f r e = absurd (not_refused fault status refl r e)

    pub failure_reported : (readers : List Failures) (fault : CommandFault) (status : ℕ)
        → FailsBy IsAnswer IsRefusal output.before output.behind fault → FailedBy readers (output.failures ∷ []) fault
        → Reports fault status faults → status ≡ failed → Fails IsAnswer IsRefusal readers output faults
    failure_reported readers fault status f b r e = record {
      fault = fault;
      fails_by = f;
      failed_by = b;
      reports =
          subst (λ (s : ℕ). Reports fault s faults) e r;
    }

-- ---- how a command ends

module _ (IsAnswer IsRefusal : List ℕ → Type 0) (readers : List Failures) (output faults : Stream) where
  pub ends-answered : Writes IsAnswer output.before output.behind → Keeps faults.before faults.behind
      → NoneFailed (readers ++ output.failures ∷ faults.failures ∷ [])
      → Ends IsAnswer IsRefusal readers output faults done
  ends-answered writes keeps none = record {
    status = inl refl;
    answered = λ e. writes;
    silent = λ e. keeps;
    refused = λ e. cc e;
    unwritten = λ e. cc e;
    failed = λ e. cc e;
    unfailed = λ e. none;
  }

  pub ends-reported : (fault : CommandFault) (status : ℕ) → FailsBy IsAnswer IsRefusal output.before output.behind fault
      → FailedBy readers (output.failures ∷ []) fault → Reports fault status faults
      → Ends IsAnswer IsRefusal readers output faults status
  ends-reported fault status f b r = record {
    status = inr (reported_status faults fault status r);
    answered = λ e. absurd (not_done faults fault status r e);
    silent = λ e. absurd (not_done faults fault status r e);
    refused = refusal_written faults IsAnswer IsRefusal output fault status f r;
    unwritten = refusal-kept IsAnswer IsRefusal output.before output.behind faults fault status f r;
    failed = failure_reported faults IsAnswer IsRefusal output readers fault status f b r;
    unfailed = unfailed faults readers output.failures fault status b r;
  }

  -- a line that `answer` wrote
  pub ends-with : (line : List ℕ) (status : ℕ) → IsAnswer line → NoneFailed readers → AnswersWith line status output faults
      → Ends IsAnswer IsRefusal readers output faults status
  ends-with line status is none (inl (same, appended, keeps, unfailed_)) =
      subst (Ends IsAnswer IsRefusal readers output faults) (sym same) (
      ends-answered (record { line = line; is_line = is; appended = appended }) keeps
      (none_more readers (output.failures ∷ faults.failures ∷ []) none unfailed_)
      )
  ends-with line status is none (inr (part, failed_, reports)) =
      ends-reported Write status (record { line = line; is_line = is; part = part }) (none, failed_) reports

-- there is no answer, and nothing was written to the output
pub unanswered : (IsAnswer IsRefusal : List ℕ → Type 0) (output : Option (List ℕ)) (fault : CommandFault) → RefusesWith IsRefusal fault
    → FailsBy IsAnswer IsRefusal output output fault
unanswered IsAnswer IsRefusal output (Refused line) is = (is, Keeps-refl output)
unanswered IsAnswer IsRefusal output NoMemory is = Keeps-refl output
unanswered IsAnswer IsRefusal output Read is = Keeps-refl output
unanswered IsAnswer IsRefusal output Write is = absurd is

pub refuses-weaker : (IsLine IsOther : List ℕ → Type 0) → ((line : List ℕ) → IsLine line → IsOther line) → (fault : CommandFault)
    → RefusesWith IsLine fault → RefusesWith IsOther fault
refuses-weaker IsLine IsOther weaker (Refused line) is = weaker (string_bytes line) is
refuses-weaker IsLine IsOther weaker NoMemory is = tt
refuses-weaker IsLine IsOther weaker Read is = tt
refuses-weaker IsLine IsOther weaker Write is = absurd is

-- the stream of a writer that was not written to
module _ (IsAnswer IsRefusal : List ℕ → Type 0) (readers : List Failures) {W : Type 0} (bytes : W → Option (List ℕ)) (writer : Watch W)
    (faults : Stream) where
  pub ends-unanswered : (fault : CommandFault) (status : ℕ) → RefusesWith IsRefusal fault → FailedBy readers [] fault
      → Reports fault status faults → Ends IsAnswer IsRefusal readers (stream_of bytes writer writer) faults status
  ends-unanswered fault status is by reports =
      ends-reported IsAnswer IsRefusal readers (stream_of bytes writer writer) faults fault status
      (unanswered IsAnswer IsRefusal (bytes writer.inner) fault is)
      (before_writing readers (failures_of writer writer ∷ []) fault by (refl, tt)) reports

-- ---- an answer that is written

pub written : {E : Type 0} (IsLine : List ℕ → Type 0) (result : Result (Unit {0}) E) (old new : Option (List ℕ)) (line : List ℕ)
    → IsLine line → OnOk result (Appends old new line) → OnOk result (Writes IsLine old new)
written IsLine (Ok u) old new line is appended = record { line = line; is_line = is; appended = appended }
written IsLine (Err fault) old new line is appended = tt

pub part_written : (IsAnswer IsRefusal : List ℕ → Type 0) (result : Result (Unit {0}) CommandFault) (old new : Option (List ℕ))
    (line : List ℕ) → IsAnswer line → OnErr result (AppendsPartOf old new line) → IfErr result (λ fault. fault ≡ Write)
    → IfErr result (FailsBy IsAnswer IsRefusal old new)
part_written IsAnswer IsRefusal (Ok u) old new line is part same = tt
part_written IsAnswer IsRefusal (Err fault) old new line is part same =
    subst (FailsBy IsAnswer IsRefusal old new) (sym same) (record { line = line; is_line = is; part = part })
