-- A seeker that takes a piece byte by byte.
use Rattle.std.proofs.Common.{◌≡◌, ℕ, ◌+◌, ◌<◌, Bool, true, false, List, [], ◌∷◌, ◌++◌, length, take, get_or, refl, sym, ap, subst, ◌∙◌, append_assoc, append-nil}
use Rattle.std.proofs.lemmas.List.{take_more}
use Rattle.p21_spec_survey.specs.Landmark.{BeginsNoSignpost, IsFirstSignpost}
use Rattle.p21_stream_resume.proofs.Finding.{none-whole, seeks-ends, seeks-goes}
use Rattle.p21_stream_resume.proofs.Runs.{read-nil}
use Rattle.p21_stream_resume.specs.Reading.{start}
use Rattle.p21_stream_resume.specs.Seeking.{BeginsSeeking, Held, IsFound, Seeks, SeeksAlong, held_behind, new_seeker}
use Rattle.p21_stream_resume.specs.Shape.{HasShape}
use Rattle.p21_stream_resume.specs.Step.{class_of, step}
use Rattle.p21_stream_resume.specs.declared.mode.Mode.{Mode}
use Rattle.p21_stream_resume.specs.declared.mode.Step.TheVariants.{Goes, Ends}
use Rattle.p21_stream_resume.specs.declared.signpost.Signpost as code

start-shape : (opened : Bool) → HasShape (start opened) []
start-shape true = refl
start-shape false = refl

pub begins-seeking : (opened : Bool) → BeginsSeeking opened (new_seeker opened)
begins-seeking opened before known = record {
  opened = opened;
  opens = known;
  skipped = [];
  passed_are = refl;
  reads = read-nil (start opened) 0;
  shape = start-shape opened;
  may_begin = λ some. absurd (some refl);
}

pub along-none : (held : Held) → SeeksAlong held [] held
along-none held before passed seeks = subst (λ (bs : List ℕ). Seeks before bs held) (sym (append-nil passed)) seeks

pub along-goes : (old held : Held) (next : Mode) (piece : List ℕ) (i : ℕ) → i < length piece → SeeksAlong old (take i piece) held
    → step held.mode (class_of (get_or piece i 0)) (get_or piece i 0) ≡ Goes next → SeeksAlong old (take (i + 1) piece) (held_behind held next (get_or piece i 0))
along-goes old held next piece i low along is before passed seeks =
    let b : ℕ = get_or piece i 0 in
    let same : (passed ++ take i piece) ++ b ∷ [] ≡ passed ++ take (i + 1) piece = append_assoc passed (take i piece) (b ∷ [])
    ∙ ap (λ (bs : List ℕ). passed ++ bs) (sym (take_more piece i 0 low)) in
    subst (λ (bs : List ℕ). Seeks before bs (held_behind held next b)) same (seeks-goes before (passed ++ take i piece) held next b (along before passed seeks) is)

pub along-ends : (old held new : Held) (own : code.Signpost) (piece : List ℕ) (i : ℕ) → i < length piece → SeeksAlong old (take i piece) held
    → step held.mode (class_of (get_or piece i 0)) (get_or piece i 0) ≡ Ends own → new.begun ≡ held.begun ++ get_or piece i 0 ∷ []
    → (before passed : List ℕ) → Seeks before passed old → IsFound before passed piece i own new
along-ends old held new own piece i low along is bytes before passed seeks =
    let b : ℕ = get_or piece i 0 in
    let (skipped, signpost, describes, first, bytes_are) = seeks-ends before (passed ++ take i piece) held own b (along before passed seeks) is in
    let same : (more : List ℕ) → (passed ++ take i piece) ++ b ∷ more ≡ passed ++ (take (i + 1) piece ++ more) = λ more.
    append_assoc passed (take i piece) (b ∷ more)
    ∙ ap (λ (bs : List ℕ). passed ++ bs) (sym (append_assoc (take i piece) (b ∷ []) more) ∙ ap (λ (bs : List ℕ). bs ++ more) (sym (take_more piece i 0 low))) in
    record {
      signpost = signpost;
      describes = describes;
      skipped = skipped;
      first =
          λ more. subst (λ (bs : List ℕ). IsFirstSignpost before bs skipped signpost more) (same more) (first more);
      bytes_are = bytes ∙ bytes_are;
    }

pub along-all : (old held : Held) (piece : List ℕ) → SeeksAlong old piece held → (before passed : List ℕ) → Seeks before passed old
    → Seeks before (passed ++ piece) held × BeginsNoSignpost before (passed ++ piece) []
along-all old held piece along before passed seeks = let further = along before passed seeks in (further, none-whole before (passed ++ piece) held further)
