-- What the names of attributes, the lists of refusals and files by themselves give.
use Rattle.std.proofs.Common.{◌≡◌, ◌≢◌, ◌≤◌, ℕ, List, [], length, Option, None, Some, refl, sym, ap, subst, inl, inr}
use Rattle.std.proofs.lemmas.Option.{slice_get_past}
use Rattle.std.specs.Prelude.{slice_get}
use Rattle.p21_spec_basics.specs.Limits.{Limits, usual}
use Rattle.p21_c.specs.Answers.{MakesList, MakesName, ShowsListed, TellsFile, TellsSyntax}
use Rattle.p21_c.specs.Contents.{list_in}
use Rattle.p21_c.specs.Reports.{counted_answer, counts_of, done, file_subject, refused_answer}
use Rattle.p21_c.specs.declared.answers.Answer.{Answer}
use Rattle.p21_c.specs.declared.answers.Report.{Report}
use Rattle.p21_c.specs.declared.contents.Content.{Content}
use Rattle.p21_spec_schema.specs.Schema.{Entity, Place, Schema, attribute_at, attributes_of}
use Rattle.p21_spec_syntax.specs.WellFormedFile.{IsIllFormed}
use Rattle.p21_stream.specs.Survey.{ListsAtMost, SurveysInput, asked_for}
use Rattle.p21_stream.specs.declared.listing.LocatedSurvey.{LocatedSurvey}
use Rattle.p21_stream_statements.specs.Source.{IsOfBytes}
use Rattle.p21_stream_statements.specs.declared.fault.Fault.TheVariants.{NoMemory}
use Rattle.p21_stream_statements.specs.declared.refusal.Refusal.{Refusal}
use Rattle.p21_stream_syntax.specs.Walk.{IsFoundOf}
use Rattle.p21_stream_syntax.specs.declared.well_formed.WellFormed.{WellFormed}

-- ---- names

pub no-entity : (s : Schema) (place : Place) → length s.entities ≤ place.entity → attribute_at s place ≡ None
no-entity s place past = ap (λ (o : Option Entity). slice_get (elim o [ Some x ↦ x.attributes | None ↦ [] ]) place.index)
    (slice_get_past s.entities place.entity past)

pub no-attribute : (s : Schema) (place : Place) → length (attributes_of s place.entity) ≤ place.index → attribute_at s place ≡ None
no-attribute s place past = slice_get_past (attributes_of s place.entity) place.index past

-- ---- lists

pub list-made : (s : Schema) (limits : Limits) → limits ≡ usual
    → (file : List ℕ) (most : ℕ) (answer : Answer) (made : Option Content) (list : LocatedSurvey) (rest : Option (List ℕ))
    → SurveysInput s limits (Some file) rest list.found
    → ListsAtMost (asked_for most) list.found → list_in made ≡ Some list → answer ≡ counts_of list.found
    → MakesList (Some s) file most answer made
list-made s limits are file most answer made list rest surveys counted held is =
    inl (list, rest, subst (λ (l : Limits). SurveysInput s l (Some file) rest list.found) are surveys, counted, held, is)

pub shows-listed : (at : Option Refusal) (refusal : Refusal) (old : Report) → Some refusal ≡ at
    → ShowsListed at done old (refused_answer file_subject refusal).report
shows-listed at refusal old e = subst (λ (o : Option Refusal). ShowsListed o done old (refused_answer file_subject refusal).report) e
    (refl, refl)

-- ---- files by themselves

pub told-found : (limits : Limits) → limits ≡ usual
    → (file : List ℕ) (answer : Answer) (found : WellFormed) (schema header keywords : Option Content) → IsFoundOf limits file found
    → TellsFile found schema header keywords → answer ≡ counted_answer found.instances
    → TellsSyntax file answer schema header keywords
told-found limits are file answer found schema header keywords of tells is =
    inl (found, subst (λ (l : Limits). IsFoundOf l file found) are of, tells, is)

pub told-refused : (limits : Limits) → limits ≡ usual
    → (file : List ℕ) (answer : Answer) (refusal : Refusal) (schema header keywords : Option Content)
    → (refusal.fault ≢ NoMemory → IsIllFormed limits file) → IsOfBytes refusal.fault → schema ≡ None → header ≡ None → keywords ≡ None
    → answer ≡ refused_answer file_subject refusal → TellsSyntax file answer schema header keywords
told-refused limits are file answer refusal schema header keywords ill of none no_header no_keywords is =
    inr (inl (refusal, subst (λ (l : Limits). refusal.fault ≢ NoMemory → IsIllFormed l file) are ill, of, none, no_header, no_keywords, is))
