-- A text that is fed in one piece.
use Rattle.std.proofs.Common.{◌≡◌, ◌≢◌, ℕ, List, Ok, Err, refl, sym, subst, ◌∙◌, slice_index_or, Fits, w8}
use Rattle.p21_spec_basics.specs.Limits.{AreLimits, Limits}
use Rattle.p21_spec_file.specs.Accepted.{IsAccepted, IsCanonicalFile}
use Rattle.p21_spec_schema.specs.Schema.{Schema}
use Rattle.p21_spec_schema.specs.WellFormed.{IsWellFormed}
use Rattle.p21_stream.proofs.Canonicals.{only-canonical}
use Rattle.p21_stream.proofs.Feeding.{dead-text}
use Rattle.p21_stream.specs.Answers.{IsOnlyCanonicalFile}
use Rattle.p21_stream_output.specs.Output.{Output, output_text}
use Rattle.p21_stream_statements.specs.declared.fault.Fault.TheVariants.{NoMemory}
use Rattle.p21_stream_statements.specs.declared.refusal.Refusal.{Refusal}
use Rattle.p21_stream.specs.Held.{SessionHeld, limits_of, schema_of}
use Rattle.p21_stream.specs.Histories.{FeedGives, FinishGives, KeepsSchema, Stands, fed_history, nothing_taken}

pub text-refused : (s : Schema) (limits : Limits) (session after : SessionHeld) (text : List ℕ) (refusal : Refusal) → schema_of session ≡ s
    → limits_of session ≡ limits → Stands session nothing_taken → ((i : ℕ) → Fits w8 (slice_index_or text i 0))
    → FeedGives session text (Err refusal) after → refusal.fault ≢ NoMemory → ¬ IsAccepted s limits text
text-refused s limits session after text refusal is_schema are_limits stands fits gives other accepted =
    let r = gives nothing_taken stands refl in
    let held : IsAccepted (schema_of session) (limits_of session) text =
    subst (λ (l : Limits). IsAccepted (schema_of session) l text) (sym are_limits)
    (subst (λ (t : Schema). IsAccepted t limits text) (sym is_schema) accepted) in
    dead-text (schema_of session) (limits_of session) text r.count fits (r.dead other) held

pub text-accepted : (s : Schema) → IsWellFormed s → (limits : Limits) → AreLimits limits
    → (session after : SessionHeld) (text out : List ℕ) (output : Output) → schema_of session ≡ s → limits_of session ≡ limits
    → KeepsSchema session after → Stands session nothing_taken → FeedGives session text (Ok tt) after
    → FinishGives after (Ok output) → out ≡ output_text output → IsOnlyCanonicalFile s limits text out
text-accepted s formed limits are session after text out output is_schema are_limits keeps stands fed_ finished is =
    let found = (finished (fed_history nothing_taken text) (fed_ nothing_taken stands).1).1 in
    let canonical : IsCanonicalFile s limits text (output_text output) =
    subst (λ (l : Limits). IsCanonicalFile s l text (output_text output)) (keeps.1 ∙ are_limits)
    (subst (λ (t : Schema). IsCanonicalFile t (limits_of after) text (output_text output)) (keeps.0 ∙ is_schema) found.is_canonical) in
    only-canonical s formed limits are text out (subst (λ (l : List ℕ). IsCanonicalFile s limits text l) (sym is) canonical)
