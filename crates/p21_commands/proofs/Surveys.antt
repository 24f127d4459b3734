-- What a survey of a file has to say.
use Rattle.std.specs.Prelude.{OnErr, OnOk}
use Rattle.std.specs.Io.KnownBytes.{Appends}
use Rattle.std.proofs.Common.{◌≡◌, ◌≢◌, ◌⊎◌, ◌||◌, ◌∙◌, ℕ, Bool, true, false, List, [], ◌∷◌, Option, Result, String, Global, Ok, Err, inl, inr, ap, refl, subst, sym, string_bytes}
use Rattle.std.proofs.KnownBytes.{Keeps-refl}
use Rattle.std.proofs.lemmas.Bool.{or_cases, or_right}
use Rattle.std.specs.List.{AllByRecursion as Each}
use Rattle.std.proofs.lemmas.List.Folds.{list_any-append}
use Rattle.p21_spec_basics.specs.Limits.{Limits, usual}
use Rattle.p21_commands.specs.Check.{IsChecked}
use Rattle.p21_commands.specs.CheckAll.{EndsListing, FailedIf, FailsToRead, Gets, IsLeftBy, IsListed, IsListedUnder, IsSurveyed, IsTextOf}
use Rattle.p21_commands.specs.CheckAll.{WritesLines, has_read_fault, is_read, listed_text}
use Rattle.p21_commands.specs.Command.{Ends}
use Rattle.p21_commands.specs.Failures.{Failures, NoneFailed}
use Rattle.p21_commands.specs.Fault.{Reports, fault_line}
use Rattle.p21_commands.specs.Files.{IsAcceptedUnder}
use Rattle.p21_commands.specs.Load.{DeclaresRead, IsSchemaRefused, RefusesRead}
use Rattle.p21_commands.specs.Refusing.{RefusesWith}
use Rattle.p21_commands.specs.Status.{failed}
use Rattle.p21_commands.specs.Streams.{OfRead, Stream, Streams, stream_of}
use Rattle.p21_commands.specs.declared.fault.CommandFault.{CommandFault}
use Rattle.p21_commands.specs.declared.fault.CommandFault.TheVariants as command
use Rattle.p21_commands.proofs.Reporting.{ends-unanswered, refuses-weaker}
use Rattle.p21_spec_schema.specs.Schema.{Schema}
use Rattle.p21_stream.specs.Survey.{EndsByRead, ListsAtMost, SurveysInput, asked_for}
use Rattle.p21_stream.specs.declared.listing.Refusals.{Refusals}
use Rattle.p21_stream.specs.declared.listing.Surveyed.{Surveyed}
use Rattle.p21_stream.specs.declared.listing.Surveyed.TheVariants as surveyed
use Rattle.p21_stream_io.specs.Transfer.{AppendsPartOf}
use Rattle.p21_stream_io.specs.Watch.{Watch, one_call_more}
use Rattle.p21_stream_output.specs.Output.{Output}
use Rattle.p21_stream_statements.specs.declared.fault.Fault.{Fault}
use Rattle.p21_stream_statements.specs.declared.fault.Fault.TheVariants as file
use Rattle.p21_stream_statements.specs.declared.refusal.Refusal.{Refusal}

-- ---- what is found

-- under the usual limits, of a variant
surveys-as : (s : Schema) (limits : Limits) (old new : Option (List ℕ)) (found as_ : Surveyed) → limits ≡ usual → found ≡ as_
    → SurveysInput s limits old new found → SurveysInput s usual old new as_
surveys-as s limits old new found as_ are is surveys =
    subst (λ (l : Limits). SurveysInput s l old new as_) are (subst (λ (f : Surveyed). SurveysInput s limits old new f) is surveys)

pub accepted-under : (schema old new : Option (List ℕ)) (s : Schema) (limits : Limits) (found : Surveyed) (output : Output)
    → DeclaresRead schema s → limits ≡ usual → found ≡ surveyed.Accepted output → SurveysInput s limits old new found
    → IsAcceptedUnder schema old new output
accepted-under schema old new s limits found output declares are is surveys =
    record { declared = s; declares = declares; accepted = surveys-as s limits old new found (surveyed.Accepted output) are is surveys }

surveyed-under : (most : ℕ) (schema old new : Option (List ℕ)) (s : Schema) (limits : Limits) (found : Surveyed) (refusals : Refusals)
    (text : List ℕ) → DeclaresRead schema s → limits ≡ usual → found ≡ surveyed.Refused refusals → SurveysInput s limits old new found
    → ListsAtMost (asked_for most) found → text ≡ listed_text refusals → IsSurveyed most schema old new refusals text
surveyed-under most schema old new s limits found refusals text declares are is surveys counted text_is = record {
  declared = s;
  declares = declares;
  surveys = surveys-as s limits old new found (surveyed.Refused refusals) are is surveys;
  counted = subst (ListsAtMost (asked_for most)) is counted;
  text_is = text_is;
}

-- ---- a read that failed

read-is : (fault : Fault) → is_read fault ≡ true → fault ≡ file.Read
read-is file.Read is = refl
read-is fault is = cc

pub none-read : (list : List Refusal) → Each (λ (refusal : Refusal). refusal.fault ≢ file.Read) list → has_read_fault list ≡ true → ⊥
none-read [] none some = cc
none-read (refusal ∷ list) (other, none) some = elim (or_cases (is_read refusal.fault) (has_read_fault list) some) [
  | inl first ↦ other (read-is refusal.fault first)
  | inr more ↦ none-read list none more
]

-- where a list has one, it ends with it
ends-by-read : (s : Schema) (limits : Limits) (old new : Option (List ℕ)) (refusals : Refusals)
    → SurveysInput s limits old new (surveyed.Refused refusals) → has_read_fault refusals.list.items ≡ true
    → EndsByRead (surveyed.Refused refusals)
ends-by-read s limits old new refusals (first, lists) some =
    elim lists.read_is_last [ inl ends ↦ ends | inr none ↦ absurd (none-read refusals.list.items none some) ]

-- where it ends with one, it has it
pub none-ends : (refusals : Refusals) → has_read_fault refusals.list.items ≡ false → EndsByRead (surveyed.Refused refusals) → ⊥
none-ends refusals none (before, refusal, list_is, extent_is, fault_is) =
    let last : (is_read refusal.fault || false) ≡ true = ap (λ (fault : Fault). is_read fault || false) fault_is in
    let some : has_read_fault refusals.list.items ≡ true = ap has_read_fault list_is
    ∙ list_any-append (λ (r : Refusal). is_read r.fault) before (refusal ∷ [])
    ∙ or_right (has_read_fault before) (is_read refusal.fault || false) last in
    cc

-- ---- what is listed

module _ (s : Schema) (limits : Limits) (old new : Option (List ℕ)) (found : Surveyed) (refusals : Refusals)
    (is : found ≡ surveyed.Refused refusals) (surveys : SurveysInput s limits old new found) where
  ends : has_read_fault refusals.list.items ≡ true → EndsByRead (surveyed.Refused refusals)
  ends some = ends-by-read s limits old new refusals (subst (SurveysInput s limits old new) is surveys) some

  pub text-listed : (most : ℕ) (schema : Option (List ℕ)) (text : List ℕ) (unread : Bool) → DeclaresRead schema s → limits ≡ usual
      → ListsAtMost (asked_for most) found → text ≡ listed_text refusals → unread ≡ has_read_fault refusals.list.items
      → IsTextOf most schema old new text unread
  text-listed most schema text true declares are counted text_is unread_is = (
    refusals,
    surveyed-under most schema old new s limits found refusals text declares are is surveys counted text_is,
    ends (sym unread_is),
  )
  text-listed most schema text false declares are counted text_is unread_is = (
    refusals,
    surveyed-under most schema old new s limits found refusals text declares are is surveys counted text_is,
    sym unread_is,
  )

  -- which calls of the reader failed
  pub listed-read : (file : Failures) (unread : Bool) → unread ≡ has_read_fault refusals.list.items → (file.after ≡ file.before)
      ⊎ ((file.after ≡ one_call_more file.before) × EndsByRead found) → (EndsByRead found → file.after ≡ one_call_more file.before)
      → FailedIf unread file
  listed-read file false unread_is (inl same) more = (same, tt)
  listed-read file false unread_is (inr failed_) more = absurd (none-ends refusals (sym unread_is) (subst EndsByRead is failed_.1))
  listed-read file true unread_is calls more = inl (more (subst EndsByRead (sym is) (ends (sym unread_is))), tt)

-- ---- how the command ends

module _ (most : ℕ) (streams : Streams) (status : ℕ) where
  -- where no read of the file failed, it ends as others do
  pub listing-ends : Ends (OfRead IsChecked streams) (OfRead (IsListedUnder most) streams) (streams.schema.failures ∷ []) streams.output
      streams.faults status → NoneFailed (streams.file.failures ∷ []) → EndsListing most streams status
  listing-ends ends none = record {
    status = ends.status;
    answered = ends.answered;
    silent = ends.silent;
    refused = ends.refused;
    unwritten = ends.unwritten;
    failed = λ e. inl (ends.failed e, none);
    unfailed = λ e. ((ends.unfailed e).0, (none.0, (ends.unfailed e).1));
  }

  pub listing-unread : status ≡ failed → FailsToRead most streams → EndsListing most streams status
  listing-unread is fails = record {
    status = inr (inr is);
    answered = λ e. cc (is, e);
    silent = λ e. cc (is, e);
    refused = λ e. cc (is, e);
    unwritten = λ e. cc (is, e);
    failed = λ e. inr fails;
    unfailed = λ e. absurd (e is);
  }

pub memory-gets : (faults : Stream) (status : ℕ) → Reports command.NoMemory status faults → Gets (fault_line command.NoMemory) faults
memory-gets faults status (inl r) = inl (r.1, r.2)
memory-gets faults status (inr r) = inr (r.1, r.2)

pub memory-fails : (faults : Stream) (status : ℕ) → Reports command.NoMemory status faults → status ≡ failed
memory-fails faults status (inl r) = r.0
memory-fails faults status (inr r) = r.0

-- nothing was written to the output
module _ (most : ℕ) (schema file faults : Stream) {W : Type 0} (bytes : W → Option (List ℕ)) (writer : Watch W)
    (unfailed : NoneFailed (schema.failures ∷ [])) where
  abbrev pub unwritten_streams : Streams
  unwritten_streams = record { schema = schema; file = file; output = stream_of bytes writer writer; faults = faults }

  refused-listing : (text : String Global) (status : ℕ) → IsListed most schema.before file.before file.behind (string_bytes text)
      → NoneFailed (file.failures ∷ []) → Reports (command.Refused text) status faults → EndsListing most unwritten_streams status
  refused-listing text status is none r =
      listing-ends most unwritten_streams status
      (ends-unanswered (OfRead IsChecked unwritten_streams) (OfRead (IsListedUnder most) unwritten_streams) (schema.failures ∷ []) bytes
      writer faults (command.Refused text) status (inr is) (unfailed, tt) r) none

  pub listing-written : (text : String Global) (unread : Bool) (status : ℕ)
      → IsTextOf most schema.before file.before file.behind (string_bytes text) unread → FailedIf unread file.failures
      → WritesLines (string_bytes text) unread faults status → EndsListing most unwritten_streams status
  listing-written text false status is none writes = refused-listing text status is none writes
  listing-written text true status is one writes = listing-unread most unwritten_streams status writes.0 (record {
    text = string_bytes text;
    is_text = inl is;
    gets = writes.1;
    unwritten = Keeps-refl (bytes writer.inner);
    failed = one;
    others = (unfailed.0, (refl, tt));
  })

  pub memory-listing : (status : ℕ) → IsLeftBy file.failures → Reports command.NoMemory status faults
      → EndsListing most unwritten_streams status
  memory-listing status (inl none) r =
      listing-ends most unwritten_streams status
      (ends-unanswered (OfRead IsChecked unwritten_streams) (OfRead (IsListedUnder most) unwritten_streams) (schema.failures ∷ []) bytes
      writer faults command.NoMemory status tt (unfailed, tt) r) none
  memory-listing status (inr one) r = listing-unread most unwritten_streams status (memory-fails faults status r) (record {
    text = fault_line command.NoMemory;
    is_text = inr refl;
    gets = memory-gets faults status r;
    unwritten = Keeps-refl (bytes writer.inner);
    failed = one;
    others = (unfailed.0, (refl, tt));
  })

-- the text of a file of which a read failed
pub text-gets : (result : Result (Unit {0}) CommandFault) (faults : Stream) (text bytes : List ℕ) → bytes ≡ text
    → OnOk result (Appends faults.before faults.behind bytes) → OnErr result (AppendsPartOf faults.before faults.behind bytes)
    → OnOk result (faults.failures.after ≡ faults.failures.before)
    → OnErr result (faults.failures.after ≡ one_call_more faults.failures.before) → Gets text faults
text-gets (Ok done) faults text bytes is ok part none one =
    inl (subst (λ (bs : List ℕ). Appends faults.before faults.behind bs) is ok, (none, tt))
text-gets (Err fault) faults text bytes is ok part none one =
    inr (subst (λ (bs : List ℕ). AppendsPartOf faults.before faults.behind bs) is part, inl (one, tt))

-- the schema is refused, and the file isn't read
pub schema-unlisted : (most : ℕ) (schema file : Option (List ℕ)) (fault : CommandFault) → RefusesRead schema fault
    → RefusesWith (IsListedUnder most schema file file) fault
schema-unlisted most schema file fault refuses = refuses-weaker (IsSchemaRefused schema) (IsListedUnder most schema file file)
    (λ line is. inl (is, Keeps-refl file)) fault refuses
