-- Whether a signpost may begin behind a piece, from its last bytes on.
use Rattle.std.proofs.Common.{◌≡◌, ℕ, ◌+◌, ◌<◌, Bool, true, false, List, [], ◌∷◌, ◌++◌, length, take, get_or, refl, sym, ap, subst, ◌∙◌, append_assoc, append-nil, arith}
use Rattle.std.specs.Prelude.{◌↔◌, IsTrue}
use Rattle.std.proofs.lemmas.Bool.{false≢true}
use Rattle.std.proofs.lemmas.List.{take_all, take_more}
use Rattle.p21_spec_survey.specs.Landmark.{IsOpened}
use Rattle.p21_stream_resume.proofs.Classes.{IsOfClass, class-is}
use Rattle.p21_stream_resume.proofs.Opened.{blank-last, closed-last, open-last, opened_after}
use Rattle.p21_stream_resume.specs.Step.{class_of}
use Rattle.p21_stream_resume.specs.declared.class.Class.{Class}
use Rattle.p21_stream_resume.specs.declared.class.Class.TheVariants as class

-- what stands behind so many bytes of the piece changes nothing
abbrev pub IsSameBehind : List ℕ → ℕ → Type 0
IsSameBehind piece count = (before : List ℕ) → IsOpened (before ++ piece) ↔ IsOpened (before ++ take count piece)

pub same-behind_all : (piece : List ℕ) → IsSameBehind piece (length piece)
same-behind_all piece before =
    let all : take (length piece) piece ≡ piece = take_all (length piece) piece (omega arith) in
    (λ h. subst (λ (bs : List ℕ). IsOpened (before ++ bs)) (sym all) h, λ h. subst (λ (bs : List ℕ). IsOpened (before ++ bs)) all h)

last-of : (before piece : List ℕ) (k : ℕ) → k < length piece → before ++ take (k + 1) piece ≡ (before ++ take k piece) ++ get_or piece k 0 ∷ []
last-of before piece k low = ap (λ (bs : List ℕ). before ++ bs) (take_more piece k 0 low) ∙ sym (append_assoc before (take k piece) (get_or piece k 0 ∷ []))

pub same-behind_blank : (piece : List ℕ) (k : ℕ) → k < length piece → IsSameBehind piece (k + 1) → class_of (get_or piece k 0) ≡ class.Blank → IsSameBehind piece k
same-behind_blank piece k low same is before =
    let b : ℕ = get_or piece k 0 in
    let of : IsOfClass class.Blank b = subst (λ (c : Class). IsOfClass c b) is (class-is b) in
    let last = blank-last (before ++ take k piece) b of in
    let one = last-of before piece k low in (
      λ h. last.0 (subst (λ (bs : List ℕ). IsOpened bs) one ((same before).0 h)),
      λ h. (same before).1 (subst (λ (bs : List ℕ). IsOpened bs) (sym one) (last.1 h)),
    )

-- what the function says of a piece
abbrev pub SaysBehind : Bool → List ℕ → Bool → Type 0
SaysBehind opened piece result = (before : List ℕ) → (IsTrue opened ↔ IsOpened before) → IsTrue result ↔ IsOpened (before ++ piece)

pub says-open : (opened : Bool) (piece : List ℕ) (k : ℕ) → k < length piece → IsSameBehind piece (k + 1)
    → opened_after false (class_of (get_or piece k 0)) ≡ true → SaysBehind opened piece true
says-open opened piece k low same opens before known =
    let b : ℕ = get_or piece k 0 in
    let is = open-last (before ++ take k piece) b (class_of b) opens (class-is b) in
    (λ _. (same before).1 (subst (λ (bs : List ℕ). IsOpened bs) (sym (last-of before piece k low)) is), λ _. refl)

pub says-closed : (opened : Bool) (piece : List ℕ) (k : ℕ) → k < length piece → IsSameBehind piece (k + 1)
    → opened_after true (class_of (get_or piece k 0)) ≡ false → SaysBehind opened piece false
says-closed opened piece k low same closed before known =
    let b : ℕ = get_or piece k 0 in (
      λ wrong. absurd (false≢true wrong),
      λ h. absurd (closed-last (before ++ take k piece) b (class_of b) closed (class-is b)
          (subst (λ (bs : List ℕ). IsOpened bs) (last-of before piece k low) ((same before).0 h))),
    )

pub says-before : (opened : Bool) (piece : List ℕ) → IsSameBehind piece 0 → SaysBehind opened piece opened
says-before opened piece same before known = (
  λ is. (same before).1 (subst (λ (bs : List ℕ). IsOpened bs) (sym (append-nil before)) (known.0 is)),
  λ h. known.1 (subst (λ (bs : List ℕ). IsOpened bs) (append-nil before) ((same before).0 h)),
)
