-- What a schema's text and a file's text give.
use Rattle.std.proofs.Common.{◌≡◌, ℕ, List, Option, Ok, Bool, IsTrue, None, Some, ◌↔◌, refl, sym, subst, ◌∙◌, inl, inr}
use Rattle.p21_spec_basics.specs.Limits.{Limits, usual}
use Rattle.p21_c.specs.Answers.{ChecksFile, Compares, IsAcceptedText, StoresSchema, MakesCanonical, MakesSchema, RefusesText}
use Rattle.p21_c.specs.Reports.{accepted_answer, done_answer, refused_answer, file_subject, second_subject}
use Rattle.p21_c.specs.Contents.{HoldsText}
use Rattle.p21_c.specs.declared.answers.Answer.{Answer}
use Rattle.p21_c.specs.declared.contents.Content.{Content}
use Rattle.p21_express.specs.ReadSchema.{SchemaRead}
use Rattle.p21_spec_schema.specs.Schema.{Schema}
use Rattle.p21_spec_file.specs.Accepted.{IsAccepted}
use Rattle.p21_stream.specs.Answers.{IsOnlyCanonicalFile}
use Rattle.p21_stream.specs.Claim.{Claim}
use Rattle.p21_stream_output.specs.Output.{Output, output_text}
use Rattle.p21_stream_statements.specs.declared.refusal.Refusal.{Refusal}
use Rattle.p21_stream.specs.Canonical.{IsCanonicalOutput}
use Rattle.p21_stream.specs.Held.{SessionHeld, limits_of, schema_of}
use Rattle.p21_stream.specs.Histories.{FeedGives, FinishGives, KeepsSchema, Stands, fed_history, nothing_taken}

pub kept-schema : (text : List ℕ) (s : Schema) (answer : Answer) (made : Option Content) → SchemaRead text (Ok s)
    → StoresSchema s answer made → MakesSchema text answer made
kept-schema text s answer made reads (inl kept) = inl (s, reads, kept.0, kept.1)
kept-schema text s answer made reads (inr none) = inr (inr none)

pub text-accepted : (s : Schema) (limits : Limits) → limits ≡ usual → Claim s limits
    → (session after : SessionHeld) (text : List ℕ) (output : Output) → schema_of session ≡ s → limits_of session ≡ limits
    → KeepsSchema session after → Stands session nothing_taken
    → FeedGives session text (Ok tt) after → FinishGives after (Ok output) → IsAcceptedText s text output
text-accepted s limits are claim session after text output is_schema are_limits keeps stands fed_ finished =
    let found = (finished (fed_history nothing_taken text) (fed_ nothing_taken stands).1).1 in
    let under : IsCanonicalOutput s (limits_of after) text output =
    subst (λ (t : Schema). IsCanonicalOutput t (limits_of after) text output) (keeps.0 ∙ is_schema) found in
    let within : IsCanonicalOutput s limits text output =
    subst (λ (l : Limits). IsCanonicalOutput s l text output) (keeps.1 ∙ are_limits) under in (
      subst (λ (l : Limits). IsCanonicalOutput s l text output) are within,
      subst
          (λ (l : Limits). IsOnlyCanonicalFile s l text (output_text output)) are (claim.of_session text output within),
    )

accepted-of : (s : Schema) (text : List ℕ) (output : Output) → IsAcceptedText s text output → IsAccepted s usual text
accepted-of s text output accepted = let is = accepted.1.is_canonical in (is.0, is.1)

-- ---- what is answered under the schema that is held

module _ (held : Option Schema) (s t : Schema) (held_is : held ≡ Some t) (same_schema : s ≡ t) (answer : Answer) where
  of-output : (text : List ℕ) (output : Output) → IsAcceptedText s text output → IsAcceptedText t text output
  of-output text output = subst (λ (u : Schema). IsAcceptedText u text output) same_schema

  of-refusal : (text : List ℕ) (refusal : Refusal) → RefusesText s text refusal → RefusesText t text refusal
  of-refusal text refusal = subst (λ (u : Schema). RefusesText u text refusal) same_schema

  pub checked-accepted : (file : List ℕ) (output : Output) → IsAcceptedText s file output → answer ≡ accepted_answer output
      → ChecksFile held file answer
  checked-accepted file output accepted is = subst (λ (h : Option Schema). ChecksFile h file answer) (sym held_is)
      (inl (output, of-output file output accepted, is))

  pub checked-refused : (file : List ℕ) (refusal : Refusal) → RefusesText s file refusal → answer ≡ refused_answer file_subject refusal
      → ChecksFile held file answer
  checked-refused file refusal refuses is = subst (λ (h : Option Schema). ChecksFile h file answer) (sym held_is)
      (inr (refusal, of-refusal file refusal refuses, is))

  pub canonical-made : (file : List ℕ) (output : Output) (made : Option Content) → IsAcceptedText s file output
      → HoldsText made (output_text output) → answer ≡ accepted_answer output → MakesCanonical held file answer made
  canonical-made file output made accepted holds is =
      subst (λ (h : Option Schema). MakesCanonical h file answer made) (sym held_is)
      (inl (output, of-output file output accepted, holds, is))

  pub canonical-refused : (file : List ℕ) (refusal : Refusal) → RefusesText s file refusal → answer ≡ refused_answer file_subject refusal
      → MakesCanonical held file answer None
  canonical-refused file refusal refuses is = subst (λ (h : Option Schema). MakesCanonical h file answer None) (sym held_is)
      (inr (inl ((refusal, of-refusal file refusal refuses, is), refl)))

  pub compares-under : (first second : List ℕ) (same : Option Bool) → Compares (Some s) first second answer same
      → Compares held first second answer same
  compares-under first second same is = subst (λ (h : Option Schema). Compares h first second answer same) (sym held_is)
      (subst (λ (u : Schema). Compares (Some u) first second answer same) same_schema is)

  pub first-refused : (first second : List ℕ) (refusal : Refusal) → RefusesText s first refusal
      → answer ≡ refused_answer file_subject refusal → Compares held first second answer None
  first-refused first second refusal refuses is = subst (λ (h : Option Schema). Compares h first second answer None) (sym held_is)
      (inr (inl ((refusal, of-refusal first refusal refuses, is), refl)))

  pub second-refused : (first second : List ℕ) (output : Output) (refusal : Refusal) → IsAcceptedText s first output
      → RefusesText s second refusal → answer ≡ refused_answer second_subject refusal → Compares held first second answer None
  second-refused first second output refusal accepted refuses is =
      subst (λ (h : Option Schema). Compares h first second answer None) (sym held_is)
      (inr (inr (inl (
        accepted-of t first output (of-output first output accepted),
        (refusal, of-refusal second refusal refuses, is),
        refl,
      ))))

  pub compared : (first second : List ℕ) (one other : Output) (told_answer : Bool) → Claim s usual → IsAcceptedText s first one
      → IsAcceptedText s second other → IsTrue told_answer ↔ (output_text one ≡ output_text other) → answer ≡ done_answer
      → Compares held first second answer (Some told_answer)
  compared first second one other told_answer claim is_one is_other tells is =
      let at = of-output first one is_one in let behind = of-output second other is_other in
      let exactly = (subst (λ (u : Schema). Claim u usual) same_schema claim).same_exactly_if_equal first second (output_text one)
      (output_text other) at.1 behind.1 in
      subst (λ (h : Option Schema). Compares h first second answer (Some told_answer)) (sym held_is)
      (inl (
        told_answer,
        refl,
        accepted-of t first one at,
        accepted-of t second other behind,
        (λ y. exactly.1 (tells.0 y), λ m. tells.1 (exactly.0 m)),
        is,
      ))
