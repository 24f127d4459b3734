-- The claim, from the laws of canonical files.
use Rattle.std.proofs.Common.{◌≡◌, ◌≢◌, ◌⊎◌, ◌∙◌, ℕ, List, ◌++◌, append_assoc, append-nil, take, drop, take-append-drop, Option, Some, None, Err, inl, inr, refl, sym, ap, subst}
use Rattle.std.specs.List.{AllByRecursion as Each}
use Rattle.p21_spec_basics.proofs.Members.{Each-append, Each-back}
use Rattle.p21_spec_basics.specs.Digits.{IsByte}
use Rattle.p21_spec_basics.specs.Limits.{AreLimits, Limits}
use Rattle.p21_spec_laws.proofs.FileTheorems.{files-tell, one-file}
use Rattle.p21_spec_file.specs.Accepted.{IsAccepted}
use Rattle.p21_spec_schema.specs.Schema.{Schema}
use Rattle.p21_spec_schema.specs.WellFormed.{IsWellFormed}
use Rattle.p21_stream.proofs.Canonicals.{in-one_way, only-canonical}
use Rattle.p21_stream.specs.Claim.{Claim, IsFailure, IsOpen}
use Rattle.p21_stream.specs.ReaderInput.{IsRefused, RefusesRead}
use Rattle.p21_stream_output.specs.Output.{output_text}
use Rattle.p21_stream_statements.specs.declared.fault.Fault.{Fault}
use Rattle.p21_stream_statements.specs.declared.fault.Fault.TheVariants.{Token, Grammar, Check, SchemaName, SectionTwice, DuplicateName, CanonicalTooLong, Dangling, WrongTarget, NoMemory, Read, Write}
use Rattle.p21_stream_statements.specs.declared.refusal.Refusal.{Refusal}
use Rattle.p21_stream.specs.Held.{SessionHeld, limits_of, schema_of}
use Rattle.p21_stream.specs.Histories.{FeedGives, FinishGives, SessionHistory}

-- a fault that is no want of memory, by the fact that it tells then
failure-or : (P : Type 0) (fault : Fault) → (fault ≢ NoMemory → P) → IsFailure fault ⊎ P
failure-or P NoMemory tells = inl (inl refl)
failure-or P Read tells = inl (inr (inl refl))
failure-or P Write tells = inl (inr (inr refl))
failure-or P (Token fault) tells = inr (tells (λ e. cc e))
failure-or P (Grammar fault) tells = inr (tells (λ e. cc e))
failure-or P (Check fault) tells = inr (tells (λ e. cc e))
failure-or P SchemaName tells = inr (tells (λ e. cc e))
failure-or P SectionTwice tells = inr (tells (λ e. cc e))
failure-or P DuplicateName tells = inr (tells (λ e. cc e))
failure-or P CanonicalTooLong tells = inr (tells (λ e. cc e))
failure-or P Dangling tells = inr (tells (λ e. cc e))
failure-or P WrongTarget tells = inr (tells (λ e. cc e))

-- ---- a reader

not-accepted : (s : Schema) (limits : Limits) (bytes : List ℕ) (rest : Option (List ℕ)) → Each IsByte bytes
    → IsRefused s limits (Some bytes) rest → ¬ IsAccepted s limits bytes
not-accepted s limits bytes None are refused accepted = absurd refused.consumed
not-accepted s limits bytes (Some rest) are refused accepted =
    let whole : bytes ≡ refused.bytes ++ rest = refused.consumed in
    let later : Each IsByte rest = Each-back IsByte refused.bytes rest (subst (Each IsByte) whole are) in
    elim refused.refused [
      | inl dead ↦ dead rest later (subst (IsAccepted s limits) whole accepted)
      | inr ended ↦ ended.1 (subst (IsAccepted s limits)
          (whole ∙ ap (λ (l : List ℕ). refused.bytes ++ l) ended.0 ∙ append-nil refused.bytes) accepted)
    ]

refused-read : (s : Schema) (limits : Limits) (bytes : List ℕ) (rest : Option (List ℕ)) (fault : Fault) → Each IsByte bytes
    → RefusesRead s limits (Some bytes) rest fault → IsFailure fault ⊎ ¬ IsAccepted s limits bytes
refused-read s limits bytes rest NoMemory are refuses = inl (inl refl)
refused-read s limits bytes rest Read are refuses = inl (inr (inl refl))
refused-read s limits bytes rest Write are refuses = absurd refuses
refused-read s limits bytes rest (Token fault) are refuses = inr (not-accepted s limits bytes rest are refuses.1)
refused-read s limits bytes rest (Grammar fault) are refuses = inr (not-accepted s limits bytes rest are refuses)
refused-read s limits bytes rest (Check fault) are refuses = inr (not-accepted s limits bytes rest are refuses)
refused-read s limits bytes rest SchemaName are refuses = inr (not-accepted s limits bytes rest are refuses)
refused-read s limits bytes rest SectionTwice are refuses = inr (not-accepted s limits bytes rest are refuses)
refused-read s limits bytes rest DuplicateName are refuses = inr (not-accepted s limits bytes rest are refuses)
refused-read s limits bytes rest CanonicalTooLong are refuses = inr (not-accepted s limits bytes rest are refuses)
refused-read s limits bytes rest Dangling are refuses = inr (not-accepted s limits bytes rest are refuses)
refused-read s limits bytes rest WrongTarget are refuses = inr (not-accepted s limits bytes rest are refuses)

-- ---- a session

-- what holds under the schema and the limits of a session
under : (P : Schema → Limits → Type 0) (s : Schema) (limits : Limits) (held : SessionHeld) (history : SessionHistory)
    → IsOpen s limits held history → P (schema_of held) (limits_of held) → P s limits
under P s limits held history is_open holds = subst (λ (l : Limits). P s l) is_open.limits_are
    (subst (λ (t : Schema). P t (limits_of held)) is_open.schema_is holds)

refused-piece : (s : Schema) (limits : Limits) (held new : SessionHeld) (history : SessionHistory) (piece more : List ℕ) (refusal : Refusal)
    → IsOpen s limits held history → FeedGives held piece (Err refusal) new → Each IsByte piece → Each IsByte more
    → IsFailure refusal.fault ⊎ ¬ IsAccepted s limits (history.taken ++ (piece ++ more))
refused-piece s limits held new history piece more refusal is_open gives are later =
    failure-or (¬ IsAccepted s limits (history.taken ++ (piece ++ more))) refusal.fault (λ other.
    let r = gives history is_open.stands is_open.goes_on in
    let whole : take r.count piece ++ drop r.count piece ≡ piece = take-append-drop r.count piece in
    let behind : Each IsByte (drop r.count piece) = Each-back IsByte (take r.count piece) (drop r.count piece)
    (subst (Each IsByte) (sym whole) are) in
    let joined : (history.taken ++ take r.count piece) ++ (drop r.count piece ++ more) ≡ history.taken ++ (piece ++ more) =
    append_assoc history.taken (take r.count piece) (drop r.count piece ++ more)
    ∙ ap (λ (l : List ℕ). history.taken ++ l) (sym (append_assoc (take r.count piece) (drop r.count piece) more)
    ∙ ap (λ (l : List ℕ). l ++ more) whole) in
    let dead = under (λ t l. (next : List ℕ) → Each IsByte next → ¬ IsAccepted t l ((history.taken ++ take r.count piece) ++ next)) s limits
    held history is_open (r.dead other) in
    λ accepted. dead (drop r.count piece ++ more) (Each-append IsByte (drop r.count piece) more behind later)
    (subst (IsAccepted s limits) (sym joined) accepted))

refused-end : (s : Schema) (limits : Limits) (held : SessionHeld) (history : SessionHistory) (refusal : Refusal)
    → IsOpen s limits held history → FinishGives held (Err refusal) → IsFailure refusal.fault ⊎ ¬ IsAccepted s limits history.taken
refused-end s limits held history refusal is_open gives =
    failure-or (¬ IsAccepted s limits history.taken) refusal.fault (λ other.
    under (λ t l. ¬ IsAccepted t l history.taken) s limits held history is_open (gives other history is_open.stands))

-- ---- the claim

pub claimed : (s : Schema) → IsWellFormed s → (limits : Limits) → AreLimits limits → Claim s limits
claimed s formed limits are = record {
  same_exactly_if_equal = λ bytes others a b is also. files-tell s formed limits bytes others a b is.is_canonical also.is_canonical;
  compared = λ first_old first_new second_old second_new same c. c.if_same;
  one_answer = λ bytes a b is also. one-file s formed limits bytes a b is.is_canonical also.is_canonical;
  in_one_way = λ bytes. in-one_way s formed bytes;
  is_accepted = λ bytes a is. is.is_accepted;
  means_the_same = λ bytes a is. is.means_the_same;
  is_its_own = λ bytes a b is again. one-file s formed limits a b a again.is_canonical is.is_its_own;
  of_session = λ bytes output is. only-canonical s formed limits are bytes (output_text output) is.is_canonical;
  refused_read = refused-read s limits;
  refused_piece = refused-piece s limits;
  refused_end = refused-end s limits;
}
