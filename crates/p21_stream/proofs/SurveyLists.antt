-- What a survey says of its file, from the definitions alone: where something is listed the file isn't accepted, and how references are
-- refused.
use Rattle.std.proofs.Common.{◌≡◌, ◌≢◌, ◌<◌, ◌⊎◌, ℕ, List, [], ◌∷◌, ◌++◌, inl, inr, refl, arith}
use Rattle.std.specs.List.{AllByRecursion as Each}
use Rattle.p21_spec_basics.proofs.Members.{Each-back, Each-weaker}
use Rattle.p21_spec_basics.specs.Digits.{IsByte}
use Rattle.p21_spec_basics.specs.Limits.{Limits}
use Rattle.p21_spec_laws.specs.CompleteFile.{Entry}
use Rattle.p21_spec_laws.specs.Offending.{unfit, unknown}
use Rattle.p21_spec_laws.specs.Waiting.{Reference}
use Rattle.p21_spec_survey.specs.Landmark.{file_begin, file_end, landmark}
use Rattle.p21_spec_survey.specs.Laws.{EndedIsNotAccepted, ListedIsNotAccepted}
use Rattle.p21_spec_survey.specs.Rules.{AreWellFormed, IsRightFile, IsUnservedIn, Rules, by_itself, of_schema}
use Rattle.p21_spec_survey.specs.Survey.{AreReferences, BeginsAt, EndsList, Extent, HasNoLandmark, IsRead, IsRefusedReference, IsToBePassed}
use Rattle.p21_spec_survey.specs.Survey.{Listed, Reading, Subject, at_end, at_most, at_stretch, by_refusal, interrupted, no_landmark}
use Rattle.p21_spec_survey.specs.Survey.{passes_over, passing_over, with_refusal}

-- the number is below those of want of memory and of a read that failed
abbrev pub IsLow : Listed → Type 0
IsLow listed = listed.number < 90

some-more : (listed : List Listed) (one : Listed) → listed ++ one ∷ [] ≢ []
some-more [] one = λ none. cc
some-more (first ∷ listed) one = λ none. cc

-- ---- a file of which something is listed

module _ (listed_law : ListedIsNotAccepted) (ended_law : EndedIsNotAccepted) (s : Rules) (formed : AreWellFormed s) (limits : Limits)
    (file : List ℕ) (bytes : Each IsByte file) (read : Reading) (so_far : IsRead s limits file read) where
  -- the next statement is to be passed over: a landmark comes, and it is, or none does, and the reading ends
  pub passed-not_accepted : (number : ℕ) (subject : Subject) (begins : ℕ) → IsToBePassed s limits file read number subject
      → BeginsAt file read begins → number < 90 → ¬ IsRightFile s limits file
  passed-not_accepted number subject begins passes at low accepted =
      ended_law s formed limits file read number subject bytes so_far (no_landmark number subject passes none)
      (λ is. omega (arith, is, low))
      (λ is. omega (arith, is, low)) accepted
    where
      none : HasNoLandmark read.bytes passes.statement passes.behind
      none passed rest file_begin goes = tt
      none passed rest file_end goes = tt
      none passed rest (landmark found) goes =
          absurd (listed_law s limits file (passing_over read passed number subject begins) bytes
          (passes_over read passed rest found number subject begins so_far (record { passes = passes; goes_by = goes }) at)
          (some-more read.listed _) accepted)

  pub list-not_accepted : (entries : List Entry) (listed : List Listed) (references : List (ℕ × ℕ)) (extent : Extent)
      → EndsList s limits file read entries listed references extent → Each IsLow listed → listed ≢ [] → ¬ IsRightFile s limits file
  list-not_accepted entries _ _ _ (at_end rest structure schema references is in_grammar same right answered) low some =
      listed_law s limits file read bytes so_far some
  list-not_accepted entries _ _ _ (by_refusal number subject begins ends at) low some =
      let last = (Each-back IsLow read.listed (record { number = number; subject = subject; begins = begins } ∷ []) low).0 in
      ended_law s formed limits file read number subject bytes so_far ends (λ is. omega (arith, is, last)) (λ is. omega (arith, is, last))
  list-not_accepted entries _ _ _ (interrupted number subject begins passes at) low some =
      let last = (Each-back IsLow (with_refusal read number subject begins) _ low).0 in
      absurd (omega (arith, last))
  list-not_accepted entries _ _ _ (at_stretch number subject begins passes at) low some =
      passed-not_accepted number subject begins passes at
      (Each-back IsLow read.listed (record { number = number; subject = subject; begins = begins } ∷ []) low).0
  list-not_accepted entries _ _ _ (at_most references right) low some = listed_law s limits file read bytes so_far some

-- ---- numbers

-- that of a reference to no instance, or to one that doesn't serve
abbrev pub IsOfReference : ℕ × ℕ → Type 0
IsOfReference told = (told.0 ≡ 56) ⊎ (told.0 ≡ 57)

unserved-number : (s : Rules) (entries : List Entry) (reference : Reference) (number : ℕ) → IsUnservedIn s entries reference number
    → (number ≡ 56) ⊎ (number ≡ 57)
unserved-number (of_schema s) entries reference number (unknown _ none) = inl refl
unserved-number (of_schema s) entries reference number (unfit _ target among named serves) = inr refl
unserved-number by_itself entries reference number (is, none) = inl is

references-numbers : (s : Rules) (read : Reading) (entries : List Entry) (references : List (ℕ × ℕ))
    → AreReferences s read entries references → Each IsOfReference references
references-numbers s read entries references right =
    Each-weaker (λ (r : ℕ × ℕ). (reference : Reference) × IsRefusedReference s read entries reference r.0 × (r.1 ≡ reference.0))
    IsOfReference (λ r (reference, refused, is). unserved-number s entries reference r.0 refused.unserved) references right

pub list-references : (s : Rules) (limits : Limits) (file : List ℕ) (read : Reading) (entries : List Entry) (listed : List Listed)
    (references : List (ℕ × ℕ)) (extent : Extent) → EndsList s limits file read entries listed references extent
    → Each IsOfReference references
list-references s limits file read entries _ _ _ (at_end rest structure schema references is in_grammar same right answered) =
    references-numbers s read entries references right
list-references s limits file read entries _ _ _ (by_refusal number subject begins ends at) = tt
list-references s limits file read entries _ _ _ (interrupted number subject begins passes at) = tt
list-references s limits file read entries _ _ _ (at_stretch number subject begins passes at) = tt
list-references s limits file read entries _ _ _ (at_most references right) = references-numbers s read entries references right
