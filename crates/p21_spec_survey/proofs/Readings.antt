-- What is read stands at the front of the file, and where nothing is listed all of it is kept and taken.
use Rattle.std.proofs.Common.{◌≡◌, ℕ, List, [], ◌∷◌, ◌++◌, refl, sym, ap, ◌∙◌, append_assoc}
use Rattle.p21_spec_exchange.specs.Statement.{Statement}
use Rattle.p21_spec_survey.specs.Landmark.{Signpost, landmark, signpost_bytes}
use Rattle.p21_spec_survey.specs.Laws.{ReadIsInFront, UnlistedIsTaken}
use Rattle.p21_spec_survey.specs.Resuming.{GoesBy, further_on, within_text}
use Rattle.p21_spec_survey.specs.Survey.{Listed, at_start, leaves_out, passes_over, takes}

-- the bytes passed stand in front of the signpost
passed-front : (before statement behind passed rest : List ℕ) (signpost : Signpost) → GoesBy before statement behind passed signpost rest
    → statement ++ behind ≡ passed ++ (signpost_bytes signpost ++ rest)
passed-front before statement behind passed _ signpost (within_text _ _ left is first) =
    ap (λ (bs : List ℕ). bs ++ behind) is.bytes_are ∙ (append_assoc passed (signpost_bytes signpost ++ left) behind
    ∙ ap (λ (bs : List ℕ). passed ++ bs) (append_assoc (signpost_bytes signpost) left behind))
passed-front before statement behind passed rest signpost (further_on skipped _ _ none first) =
    ap (λ (bs : List ℕ). statement ++ bs) first.bytes_are ∙ sym (append_assoc statement skipped (signpost_bytes signpost ++ rest))

pub read-in_front : ReadIsInFront
read-in_front rules limits file read at_start = (file, refl)
read-in_front rules limits file read (takes old bytes rest statement so_far next is begins right) = (rest, next ∙ sym (append_assoc old.bytes bytes rest))
read-in_front rules limits file read (leaves_out old bytes rest n record_ number start so_far next is begins wrong none_inside at) =
    (rest, next ∙ sym (append_assoc old.bytes bytes rest))
read-in_front rules limits file read (passes_over old passed rest found number subject start so_far over at) = (
  signpost_bytes (landmark found) ++ rest,
  over.passes.next_are
      ∙ (ap (λ (bs : List ℕ). old.bytes ++ bs) (passed-front old.bytes over.passes.statement over.passes.behind passed rest _ over.goes_by)
      ∙ sym (append_assoc old.bytes passed (signpost_bytes (landmark found) ++ rest))),
)

some-listed : (listed : List Listed) (one : Listed) → listed ++ one ∷ [] ≡ [] → ⊥
some-listed [] one none = cc
some-listed (first ∷ listed) one none = cc

pub unlisted-taken : UnlistedIsTaken
unlisted-taken rules limits file read at_start none = (refl, refl)
unlisted-taken rules limits file read (takes old bytes rest statement so_far next is begins right) none =
    let both = unlisted-taken rules limits file old so_far none in
    (ap (λ (bs : List ℕ). bs ++ bytes) both.0, ap (λ (xs : List Statement). xs ++ statement ∷ []) both.1)
unlisted-taken rules limits file read (leaves_out old bytes rest n record_ number start so_far next is begins wrong none_inside at) none = absurd (some-listed old.listed _ none)
unlisted-taken rules limits file read (passes_over old passed rest found number subject start so_far over at) none = absurd (some-listed old.listed _ none)
