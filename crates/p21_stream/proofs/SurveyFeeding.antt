-- A survey that is fed what a reader gives.
use Rattle.std.proofs.Common.{◌≡◌, ◌≤◌, ◌<◌, ◌+◌, ◌-◌, ◌^◌, ◌⊎◌, ℕ, true, false, List, [], ◌∷◌, ◌++◌, length, map, take, get_or, Option}
use Rattle.std.proofs.Common.{Some, None, inl, inr, refl, sym, ap, subst, ◌∙◌, append_assoc, append-nil, length-append, arith}
use Rattle.std.proofs.lemmas.List.{map-append, take_all, take_more}
use Rattle.std.proofs.KnownBytes.{Consumes-kept, Consumes-nil, Consumes-trans}
use Rattle.std.specs.Io.KnownBytes.{Consumes, IsAtEnd}
use Rattle.p21_spec_basics.proofs.Members.{Each-append}
use Rattle.p21_spec_basics.specs.Digits.{IsByte}
use Rattle.p21_spec_basics.specs.Limits.{Limits}
use Rattle.p21_stream.specs.Feeding.{TakesAtMost}
use Rattle.p21_stream.specs.ReaderInput.{ConsumesAtMost}
use Rattle.p21_stream.specs.SurveyFeeding.{HasTakenPiece, IsSurveyedFrom, IsSurveyedTo, StandsBehind, SurveysMore, TakesPiece}
use Rattle.p21_stream_log.specs.Log.{Known}
use Rattle.p21_stream_survey.specs.Course.{AsksTheSame, Course, Feeds, HasListEnded}
use Rattle.p21_stream_survey.specs.declared.survey.Survey.{Survey}

-- ---- a piece

-- all of a file is known
abbrev pub all_of : List ℕ → Known
all_of bytes = record { bytes = bytes; is_all = true }

-- the survey is so far in the file that ends behind the piece
pub piece-next : (survey : Survey) (piece : List ℕ) (size : ℕ) → size < 2 ^ 64 → TakesPiece survey piece size
    → (known : Known) × (more : List ℕ) × Course known survey (piece ++ more)
piece-next survey piece size few takes =
    let size_is = takes.size_is in (
      all_of (takes.bytes ++ piece),
      [],
      takes.stands (all_of (takes.bytes ++ piece)) (piece ++ []) (omega (arith, few, size_is))
          (ap (λ (l : List ℕ). takes.bytes ++ l) (sym (append-nil piece))),
    )

pub piece-same : (before after : Survey) (piece : List ℕ) (size : ℕ) → size < 2 ^ 64 → TakesPiece before piece size
    → Feeds before piece after
    → AsksTheSame before after
piece-same before after piece size few takes feeds =
    let (known, more, course) = piece-next before piece size few takes in
    (feeds known more course).same

piece-behind : (before after : Survey) (bytes piece : List ℕ) → StandsBehind before bytes → Feeds before piece after
    → StandsBehind after (bytes ++ piece)
piece-behind before after bytes piece stands feeds known more few is =
    (feeds known more (stands known (piece ++ more) few (is ∙ append_assoc bytes piece more))).course

pub surveyed-more : (start old new : Option (List ℕ)) (before after : Survey) (piece : List ℕ) (size count next : ℕ)
    → Consumes old new piece
    → length piece ≡ count → next ≡ size + count → HasTakenPiece before piece after → IsSurveyedFrom start old before size
    → IsSurveyedFrom start new after next
surveyed-more start old new before after piece size count next more count_is next_is taken from = record {
  bytes = from.bytes ++ piece;
  consumed = Consumes-trans start old new from.bytes piece from.consumed more;
  are_bytes = Each-append IsByte from.bytes piece from.are_bytes taken.are_bytes;
  size_is =
      let sum = length-append from.bytes piece in
      let size_is = from.size_is in
      omega (arith, sum, size_is, count_is, next_is);
  stands = piece-behind before after from.bytes piece from.stands taken.feeds;
}

pub takes-piece : (start now : Option (List ℕ)) (survey : Survey) (piece : List ℕ) (size count next : ℕ)
    → IsSurveyedFrom start now survey size → length piece ≡ count → next ≡ size + count → TakesPiece survey piece next
takes-piece start now survey piece size count next from count_is next_is = record {
  bytes = from.bytes;
  stands = from.stands;
  size_is =
      let sum = length-append from.bytes piece in
      let size_is = from.size_is in
      omega (arith, sum, size_is, count_is, next_is);
}

-- ---- the loop

-- nothing is read
pub surveyed-none : (now : Option (List ℕ)) (survey : Survey) → StandsBehind survey [] → IsSurveyedFrom now now survey 0
surveyed-none now survey stands = record { bytes = []; consumed = Consumes-nil now; are_bytes = tt; size_is = refl; stands = stands }

pub same-first : (survey : Survey) → AsksTheSame survey survey
same-first survey = record { rules = refl; limits = refl; most = refl }

pub same-on : (first second third : Survey) → AsksTheSame first second → AsksTheSame second third → AsksTheSame first third
same-on first second third before behind = record {
  rules = behind.rules ∙ before.rules;
  limits = behind.limits ∙ before.limits;
  most = behind.most ∙ before.most;
}

surveyed-to : (limits : Limits) (start now : Option (List ℕ)) (survey : Survey) (size : ℕ) → size < 2 ^ 64
    → (from : IsSurveyedFrom start now survey size)
    → HasListEnded survey.stage ⊎ IsAtEnd now ⊎ (limits.file_source < length from.bytes) → IsSurveyedTo limits start now survey false
surveyed-to limits start now survey size few from over = record {
  bytes = from.bytes;
  consumed = from.consumed;
  are_bytes = from.are_bytes;
  few = let size_is = from.size_is in omega (arith, few, size_is);
  stands = from.stands;
  over = over;
}

-- the list has ended
pub ended-to : (limits : Limits) (start now : Option (List ℕ)) (survey : Survey) (size : ℕ) → size < 2 ^ 64
    → IsSurveyedFrom start now survey size → HasListEnded survey.stage → IsSurveyedTo limits start now survey false
ended-to limits start now survey size few from ended = surveyed-to limits start now survey size few from (inl ended)

-- the reader gave no more
pub whole-to : (limits : Limits) (start old new : Option (List ℕ)) (before after : Survey) (taken next : ℕ) → next < 2 ^ 64
    → IsSurveyedFrom start old before taken → SurveysMore old new before after taken (Some next) → next ≡ taken
    → IsSurveyedTo limits start new after false
whole-to limits start old new before after taken next few from (along, ended) none =
    surveyed-to limits start new after next few (along start from) (inr (inl (ended none)))

-- it gave more than a file may have
pub long-to : (limits : Limits) (start old new : Option (List ℕ)) (before after : Survey) (taken next : ℕ) → next < 2 ^ 64
    → IsSurveyedFrom start old before taken → SurveysMore old new before after taken (Some next) → limits.file_source < next
    → IsSurveyedTo limits start new after false
long-to limits start old new before after taken next few from (along, ended) long =
    let behind = along start from in
    let size_is = behind.size_is in
    surveyed-to limits start new after next few behind (inr (inr (omega (arith, long, size_is))))

-- a read failed
pub failed-to : (limits : Limits) (start old new : Option (List ℕ)) (before after : Survey) (taken : ℕ) → taken < 2 ^ 64
    → IsSurveyedFrom start old before taken → SurveysMore old new before after taken None → ¬ HasListEnded before.stage
    → IsSurveyedTo limits start new after true
failed-to limits start old new before after taken few from (kept, same) open_ = record {
  bytes = from.bytes;
  consumed = Consumes-kept start old new from.bytes from.consumed kept;
  are_bytes = from.are_bytes;
  few = let size_is = from.size_is in omega (arith, few, size_is);
  stands = subst (λ (survey : Survey). StandsBehind survey from.bytes) (sym same) from.stands;
  over = subst (λ (survey : Survey). ¬ HasListEnded survey.stage) (sym same) open_;
}

-- no more is consumed than a file may have, and one byte
pub consumed-most : (limits : Limits) (start old new : Option (List ℕ)) (survey : Survey) (taken : ℕ) → taken ≤ limits.file_source
    → IsSurveyedFrom start old survey taken → TakesAtMost ((limits.file_source - taken) + 1) old new → ConsumesAtMost limits start new
consumed-most limits start old new survey taken within from (piece, consumed, few) = (
  from.bytes ++ piece,
  Consumes-trans start old new from.bytes piece from.consumed consumed,
  let size_is = from.size_is in
      let sum = length-append from.bytes piece in
      omega (arith, size_is, within, few, sum),
)

pub consumed-by_now : (limits : Limits) (start now : Option (List ℕ)) (survey : Survey) (taken : ℕ) → taken ≤ limits.file_source
    → IsSurveyedFrom start now survey taken → ConsumesAtMost limits start now
consumed-by_now limits start now survey taken within from =
    (from.bytes, from.consumed, (let size_is = from.size_is in omega (arith, size_is, within)))

-- ---- what is handed on, one behind the other

-- one more is mapped
pub mapped-next : {X Y : Type 0} (f : X → Y) (xs : List X) (k : ℕ) (x : X) (now new : List Y) → k < length xs → x ≡ get_or xs k x
    → now ≡ map f (take k xs) → new ≡ now ++ f x ∷ [] → new ≡ map f (take (k + 1) xs)
mapped-next f xs k x now new below is so_far new_is =
    new_is ∙ (ap (λ l. l ++ f x ∷ []) so_far
    ∙ sym (ap (map f) (take_more xs k x below ∙ ap (λ y. take k xs ++ y ∷ []) (sym is)) ∙ map-append f (take k xs) (x ∷ [])))

-- all are
pub mapped-all : {X Y : Type 0} (f : X → Y) (xs : List X) (k : ℕ) (now : List Y) → length xs ≤ k → now ≡ map f (take k xs) → now ≡ map f xs
mapped-all f xs k now end so_far = so_far ∙ ap (map f) (take_all k xs end)
