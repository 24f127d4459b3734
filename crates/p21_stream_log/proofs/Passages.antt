-- A statement is passed over up to the signpost by which the reading goes.
use Rattle.std.proofs.Common.{◌≡◌, ◌⊎◌, ◌↔◌, ◌+◌, ◌-◌, ◌^◌, ◌<◌, ◌≤◌, inl, inr, ℕ, IsTrue, List, [], ◌∷◌, ◌++◌, length, length-append, take, drop, Option, Some, None, refl, sym, ap, subst, ◌∙◌, append_assoc, append-nil, arith}
use Rattle.std.proofs.lemmas.List.{append_cancel_left, drop_at, length-take-le, take-append-drop, take_at}
use Rattle.p21_spec_basics.proofs.Members.{head_is, tail_is}
use Rattle.p21_spec_basics.specs.Limits.{Limits}
use Rattle.p21_spec_survey.specs.Rules.{Rules}
use Rattle.p21_spec_survey.specs.Landmark as landmarks
use Rattle.p21_spec_survey.specs.Landmark.{IsFirstSignpost, IsOpened, Landmark, Signpost, StandsAt, file_begin, file_end, landmark, signpost_bytes}
use Rattle.p21_spec_survey.specs.Laws.{GoesByOnePlace}
use Rattle.p21_spec_survey.specs.Resuming.{EndsInRemark, EndsInString, GoesBy, HasNoneInside, IsInOpenRemark, IsInside, further_on, within_text}
use Rattle.p21_spec_survey.specs.Survey.{EndsReading, IsFileMark, IsPassedOver, Subject, no_landmark}
use Rattle.p21_stream_log.proofs.GoingOn.{passed-front}
use Rattle.p21_stream_log.specs.Going.{GoesOnBehind}
use Rattle.p21_stream_log.specs.Log.{Held, IsFileOf, Known, Point}
use Rattle.p21_stream_log.specs.Passage.{AheadIs, FindsInside, FurtherGives, IsBrokenBy, IsMark, IsPassedTooFar, IsTooFarAt, IsTooMany, PassToGives, PassageFor, PassageGives, StaysAt}
use Rattle.p21_stream_log.specs.declared.passage.Passage.{Passage}
use Rattle.p21_stream_log.specs.declared.passage.Passage.TheVariants.{AtFileMark, GoesOn, Sought, TooLong}
use Rattle.p21_stream_resume.proofs.OpenRemarks.{string-first}
use Rattle.p21_stream_resume.specs.Lexing.{AreLexed}
use Rattle.p21_stream_resume.specs.Seeking.{IsFound, Seeks, SeeksOn}
use Rattle.p21_stream_resume.specs.Seeking as seeking
use Rattle.p21_stream_resume.specs.Shape.{Describes}
use Rattle.p21_stream_resume.specs.Standing.{FindsInRemark, FindsInString, StandsInRemark, StandsInString}
use Rattle.p21_stream_resume.specs.declared.signpost.Signpost as code
use Rattle.p21_stream_resume.specs.declared.signpost.Signpost.TheVariants as variant
use Rattle.p21_tokens_automaton.specs.Reading.{State}

-- ---- signposts inside the statement

-- they stand in a string of it, or in the remark in which the file ends
abbrev StandsInText : List ℕ → List ℕ → ℕ → Signpost → Type 0
StandsInText statement behind place signpost = StandsInString statement place signpost
    ⊎ ((behind ≡ []) × StandsInRemark statement place signpost)

inside-stands : (statement behind front rest : List ℕ) (signpost : Signpost) → IsInside statement behind front signpost rest
    → StandsInText statement behind (length front) signpost
inside-stands statement behind front rest signpost is =
    let tail : List ℕ = signpost_bytes signpost ++ rest in
    let first : take (length front) statement ≡ front = ap (λ (l : List ℕ). take (length front) l) is.bytes_are
    ∙ take_at front tail (length front) refl in
    let further : drop (length front) statement ≡ tail = ap (λ (l : List ℕ). drop (length front) l) is.bytes_are
    ∙ drop_at front tail (length front) refl in
    let within : length front ≤ length statement = (let size = ap length is.bytes_are in let sum = length-append front tail in
    omega (arith, size, sum)) in
    let stands : StandsAt (take (length front) statement) (drop (length front) statement) signpost =
    subst (λ (l : List ℕ). StandsAt l (drop (length front) statement) signpost) (sym first)
    (subst (λ (l : List ℕ). StandsAt front l signpost) (sym further) is.stands) in
    elim is.in_text [
      | inl in_string ↦ inl (record { within = within; in_string = subst EndsInString (sym first) in_string; stands = stands })
      | inr (nothing, open_) ↦ inr (
        nothing,
        record {
          within = within;
          in_remark =
              subst (λ (l : List ℕ). IsInOpenRemark l statement) (sym first) open_;
          stands = stands;
        },
      )
    ]

pub none-in-front : (statement behind : List ℕ) → FindsInString statement None → (behind ≡ [] → FindsInRemark statement None)
    → HasNoneInside statement behind
none-in-front statement behind none none_open front signpost rest is = elim (inside-stands statement behind front rest signpost is) [
  | inl there ↦ none (length front) signpost there
  | inr (nothing, there) ↦ none_open nothing (length front) signpost there
]

-- what is found in the remark where none stands in a string
pub found-in_remark : (statement behind : List ℕ) (found : Option (ℕ × code.Signpost)) → FindsInString statement None → behind ≡ []
    → FindsInRemark statement found → FindsInside statement behind found
found-in_remark statement behind None none nothing open_ = (none, λ _. open_)
found-in_remark statement behind (Some first) none nothing open_ = inr (none, nothing, open_)

no-more : (behind more : List ℕ) → behind ++ more ≡ [] → (behind ≡ []) × (more ≡ [])
no-more [] more is = (refl, is)
no-more (b ∷ behind) more is = absurd cc

opened-further : (before bytes : List ℕ) → IsOpened bytes → IsOpened (before ++ bytes)
opened-further before bytes is = record {
  front = before ++ is.front;
  opener = is.opener;
  blanks = is.blanks;
  before_are = ap (λ (l : List ℕ). before ++ l) is.before_are ∙ sym (append_assoc before is.front (is.opener ∷ is.blanks));
  opens = is.opens;
  are_blanks = is.are_blanks;
}

-- ---- where the reading goes on

-- behind so many bytes of the statement and those behind it, where such bytes come then
pub record PassesTo (comes : List ℕ → Type 0) (before statement behind : List ℕ) (count : ℕ) (signpost : Signpost) : Type 0 where
  pub within : count ≤ length (statement ++ behind)
  pub opened : IsOpened (before ++ take count (statement ++ behind))
  pub goes : (more : List ℕ) → comes more → (last : List ℕ)
      × GoesBy before statement (behind ++ more) (take count (statement ++ behind)) signpost last

abbrev whatever : List ℕ → Type 0
whatever more = Unit {0}

-- in a string of it, or in the remark in which it ends
module _ (comes : List ℕ → Type 0) (before statement behind : List ℕ) (place : ℕ) (signpost : Signpost) (within : place ≤ length statement)
    (stands : StandsAt (take place statement) (drop place statement) signpost)
    (in_text : (more : List ℕ) → comes more → EndsInString (take place statement)
    ⊎ ((behind ++ more ≡ []) × IsInOpenRemark (take place statement) statement))
    (first : (more : List ℕ) → comes more → (earlier : ℕ) (other : Signpost) → StandsInText statement (behind ++ more) earlier other
    → place ≤ earlier) where
  abbrev text_front : List ℕ
  text_front = take place statement

  abbrev text_rest : List ℕ
  text_rest = drop place statement

  text-size : length text_front ≡ place
  text-size = length-take-le place statement within

  same-text : take place (statement ++ behind) ≡ text_front
  same-text =
      ap (λ (l : List ℕ). take place l) (ap (λ (l : List ℕ). l ++ behind) (sym (take-append-drop place statement))
      ∙ append_assoc text_front text_rest behind) ∙ take_at text_front (text_rest ++ behind) place text-size

  text-passes : PassesTo comes before statement behind place signpost
  text-passes = record {
    within = let sum = length-append statement behind in omega (arith, sum, within);
    opened = opened-further before (take place (statement ++ behind)) (subst IsOpened (sym same-text) stands.opened);
    goes = λ more come. (
      stands.rest ++ (behind ++ more),
      subst (λ (l : List ℕ). GoesBy before statement (behind ++ more) l signpost (stands.rest ++ (behind ++ more))) (sym same-text)
          (within_text text_front signpost stands.rest
          (record {
            bytes_are = sym (take-append-drop place statement) ∙ ap (λ (l : List ℕ). text_front ++ l) stands.bytes_are;
            stands = subst (λ (l : List ℕ). StandsAt text_front l signpost) stands.bytes_are stands;
            in_text = in_text more come;
          })
          (λ other_front other other_rest is.
          let low = first more come (length other_front) other (inside-stands statement (behind ++ more) other_front other_rest other is) in
          let size = text-size in
          omega (arith, low, size))),
    );
  }

string-passes : (before statement behind : List ℕ) (place : ℕ) (own : code.Signpost) (state : State) → AreLexed statement state
    → FindsInString statement (Some (place, own)) → (signpost : Signpost) × Describes own signpost
    × PassesTo whatever before statement behind place signpost
string-passes before statement behind place own state lexed ((signpost, stands, describes), first) = (
  signpost,
  describes,
  text-passes whatever before statement behind place signpost stands.within stands.stands (λ more come. inl stands.in_string)
      (λ more come earlier other there. elim there [
        | inl in_string ↦ first earlier other in_string
        | inr (none, open_) ↦ (
            let low = string-first statement (take earlier statement) place state lexed stands.in_string open_.in_remark in
            let size = length-take-le earlier statement open_.within in
            omega (arith, low, size))
      ]),
)

remark-passes : (before statement behind : List ℕ) (place : ℕ) (own : code.Signpost) → behind ≡ [] → FindsInString statement None
    → FindsInRemark statement (Some (place, own))
    → (signpost : Signpost) × Describes own signpost × PassesTo (λ more. more ≡ []) before statement behind place signpost
    × ((inside : List ℕ) × EndsInRemark statement inside)
remark-passes before statement behind place own nothing none ((signpost, stands, describes), first) = (
  signpost,
  describes,
  text-passes (λ more. more ≡ []) before statement behind place signpost stands.within stands.stands
      (λ more come. inr (ap (λ (l : List ℕ). l ++ more) nothing ∙ come, stands.in_remark))
      (λ more come earlier other there. elim there [
        | inl in_string ↦ absurd (none earlier other in_string)
        | inr (no_bytes, open_) ↦ first
            earlier other open_
      ]),
  (let (inside, more, are, begun, ends) = stands.in_remark in (inside ++ more, ends)),
)

-- behind it, where a seeker has taken these bytes and then some of a piece
module _ (before statement behind piece : List ℕ) (last : ℕ) (own : code.Signpost) (held : seeking.Held) (low : last < length piece)
    (none : (more : List ℕ) → HasNoneInside statement ((behind ++ piece) ++ more))
    (is : IsFound (before ++ statement) behind piece last own held)
    (count : ℕ) (count_is : count ≡ length (statement ++ behind) + (last + 1) - length held.begun) where
  abbrev piece_front : List ℕ
  piece_front = take (last + 1) piece

  abbrev left : List ℕ
  left = drop (last + 1) piece

  abbrev sign : List ℕ
  sign = signpost_bytes is.signpost

  abbrev front : List ℕ
  front = statement ++ is.skipped

  taken-is : behind ++ piece_front ≡ is.skipped ++ sign
  taken-is = ap (λ (l : List ℕ). behind ++ l) (sym (append-nil piece_front))
      ∙ ((is.first []).bytes_are ∙ ap (λ (l : List ℕ). is.skipped ++ l) (append-nil sign))

  whole-is : statement ++ (behind ++ piece) ≡ front ++ (sign ++ left)
  whole-is =
      let behind_is : behind ++ piece ≡ is.skipped ++ (sign ++ left) =
      ap (λ (l : List ℕ). behind ++ l) (sym (take-append-drop (last + 1) piece))
      ∙ (sym (append_assoc behind piece_front left) ∙ (ap (λ (l : List ℕ). l ++ left) taken-is ∙ append_assoc is.skipped sign left)) in
      ap (λ (l : List ℕ). statement ++ l) behind_is ∙ sym (append_assoc statement is.skipped (sign ++ left))

  front-size : length front ≡ count
  front-size =
      let a = length-append statement is.skipped in
      let b = ap length taken-is in
      let d = length-append is.skipped sign in
      let e = length-take-le (last + 1) piece (omega (arith, low)) in
      let f = ap length is.bytes_are in
      let g = length-append behind piece_front in
      let h = length-append statement behind in
      omega (arith, a, b, d, e, f, g, h, count_is)

  same-front : take count (statement ++ (behind ++ piece)) ≡ front
  same-front = ap (λ (l : List ℕ). take count l) whole-is ∙ take_at front (sign ++ left) count front-size

  seeker-passes : PassesTo whatever before statement (behind ++ piece) count is.signpost
  seeker-passes = record {
    within = let all = ap length whole-is in let sum = length-append front (sign ++ left) in let size = front-size in
        omega (arith, all, sum, size);
    opened = subst (λ (l : List ℕ). IsOpened (before ++ l)) (sym same-front)
        (subst IsOpened (append_assoc before statement is.skipped) (is.first []).stands.opened);
    goes = λ more come.
        let first : IsFirstSignpost (before ++ statement) ((behind ++ piece) ++ more) is.skipped is.signpost (left ++ more) =
        subst (λ (l : List ℕ). IsFirstSignpost (before ++ statement) l is.skipped is.signpost (left ++ more))
        (ap (λ (l : List ℕ). behind ++ l) (sym (append_assoc piece_front left more)
        ∙ ap (λ (l : List ℕ). l ++ more) (take-append-drop (last + 1) piece)) ∙ sym (append_assoc behind piece more))
        (is.first (left ++ more)) in (
          left ++ more,
          subst (λ (l : List ℕ). GoesBy before statement ((behind ++ piece) ++ more) l is.signpost (left ++ more))
              (sym same-front) (further_on is.skipped is.signpost (left ++ more) (none more) first),
        );
  }

  -- what stands behind the bytes that are passed are those of the signpost, and the rest of the piece
  seeker-ahead : drop count (statement ++ (behind ++ piece)) ≡ held.begun ++ left
  seeker-ahead = ap (λ (l : List ℕ). drop count l) whole-is
      ∙ (drop_at front (sign ++ left) count front-size ∙ ap (λ (l : List ℕ). l ++ left) (sym is.bytes_are))

-- ---- signposts of files

mark-of : (own : code.Signpost) (signpost : Signpost) → Describes own signpost → IsMark own → IsFileMark signpost
mark-of variant.FileBegin file_begin describes mark = tt
mark-of variant.FileEnd file_end describes mark = tt
mark-of variant.FileBegin (landmark other) describes mark = absurd describes
mark-of variant.FileBegin file_end describes mark = absurd describes
mark-of variant.FileEnd (landmark other) describes mark = absurd describes
mark-of variant.FileEnd file_begin describes mark = absurd describes
mark-of (variant.Instance name blanks) signpost describes mark = absurd mark
mark-of (variant.SectionEnd blanks) signpost describes mark = absurd mark

no-mark : (own : code.Signpost) (signpost : Signpost) → Describes own signpost → (IsMark own → ⊥)
    → (other : Landmark) × (signpost ≡ landmark other)
no-mark variant.FileBegin signpost describes none = absurd (none tt)
no-mark variant.FileEnd signpost describes none = absurd (none tt)
no-mark (variant.Instance name blanks) (landmark other) describes none = (other, refl)
no-mark (variant.Instance name blanks) file_begin describes none = absurd describes
no-mark (variant.Instance name blanks) file_end describes none = absurd describes
no-mark (variant.SectionEnd blanks) (landmark other) describes none = (other, refl)
no-mark (variant.SectionEnd blanks) file_begin describes none = absurd describes
no-mark (variant.SectionEnd blanks) file_end describes none = absurd describes

-- where the bytes of one stand, no landmark does
mark-same : (one other : Signpost) (rest other_rest : List ℕ) → IsFileMark one
    → signpost_bytes one ++ rest ≡ signpost_bytes other ++ other_rest → IsFileMark other
mark-same (landmark l) other rest other_rest mark same = absurd mark
mark-same one file_begin rest other_rest mark same = tt
mark-same one file_end rest other_rest mark same = tt
mark-same file_begin (landmark (landmarks.instance digits blanks)) rest other_rest mark same = let h : 73 ≡ 35 = head_is 73 35 _ _ same in
    omega (arith, h)
mark-same file_begin (landmark (landmarks.section_end blanks)) rest other_rest mark same = let h : 73 ≡ 69 = head_is 73 69 _ _ same in
    omega (arith, h)
mark-same file_end (landmark (landmarks.instance digits blanks)) rest other_rest mark same = let h : 69 ≡ 35 = head_is 69 35 _ _ same in
    omega (arith, h)
mark-same file_end (landmark (landmarks.section_end blanks)) rest other_rest mark same =
    let second = tail_is 69 69 _ _ same in
    let third = tail_is 78 78 _ _ second in
    let fourth = tail_is 68 68 _ _ third in
    let h : 45 ≡ 83 = head_is 45 83 _ _ fourth in omega (arith, h)

-- ---- a log

module _ (s : Rules) (limits : Limits) (known : Known) (point : Point) (old : Held) (statement behind more : List ℕ) (number : ℕ)
    (subject : Subject) (begins : ℕ) (broken : IsBrokenBy s limits known point old statement behind more number subject begins) (count : ℕ)
    (signpost : Signpost) (comes : List ℕ → Type 0) (come : (file : List ℕ) (of : IsFileOf known file)
    → comes (more ++ (broken.next_in file of).rest)) (passes : PassesTo comes point.read.bytes statement behind count signpost) where
  abbrev all_bytes : List ℕ
  all_bytes = statement ++ behind

  abbrev passed : List ℕ
  passed = take count all_bytes

  -- so it is passed over in each file, and what stands ahead begins with the signpost
  over-in : (file : List ℕ) → IsFileOf known file → (last rest : List ℕ)
      × IsPassedOver s limits file point.read passed signpost last number subject
      × (signpost_bytes signpost ++ last ≡ (drop count all_bytes ++ more) ++ rest)
  over-in file of =
      let next = broken.next_in file of in
      let (last, goes) = passes.goes (more ++ next.rest) (come file of) in
      let goes_by : GoesBy point.read.bytes next.to_pass.statement next.to_pass.behind passed signpost last =
      subst (λ (l : List ℕ). GoesBy point.read.bytes l next.to_pass.behind passed signpost last) (sym next.statement_is)
      (subst (λ (l : List ℕ). GoesBy point.read.bytes statement l passed signpost last) (sym next.behind_are) goes) in
      let parts : next.to_pass.statement ++ next.to_pass.behind ≡ passed ++ ((drop count all_bytes ++ more) ++ next.rest) =
      ap (λ (l : List ℕ). l ++ next.to_pass.behind) next.statement_is
      ∙ (ap (λ (l : List ℕ). statement ++ l) next.behind_are
      ∙ (sym (append_assoc statement behind (more ++ next.rest))
      ∙ (ap (λ (l : List ℕ). l ++ (more ++ next.rest)) (sym (take-append-drop count all_bytes))
      ∙ (append_assoc passed (drop count all_bytes) (more ++ next.rest)
      ∙ ap (λ (l : List ℕ). passed ++ l) (sym (append_assoc (drop count all_bytes) more next.rest)))))) in
      let front = passed-front point.read.bytes next.to_pass.statement next.to_pass.behind passed last signpost goes_by in (
        last,
        next.rest,
        record { passes = next.to_pass; goes_by = goes_by },
        append_cancel_left passed (signpost_bytes signpost ++ last) ((drop count all_bytes ++ more) ++ next.rest) (sym front ∙ parts),
      )

  pub goes-behind : (other : Landmark) → signpost ≡ landmark other → (file : List ℕ) → IsFileOf known file
      → GoesOnBehind s limits file point.read passed (drop count all_bytes ++ more) number subject begins
  goes-behind other same file of =
      let (last, rest, over, ahead_are) = over-in file of in
      record {
        found = other;
        rest = last;
        over = subst (λ (x : Signpost). IsPassedOver s limits file point.read passed x last number subject) same over;
        begins_at = (broken.next_in file of).begins_at;
        further = rest;
        ahead_are = ap (λ (x : Signpost). signpost_bytes x ++ last) (sym same) ∙ ahead_are;
      }

  -- at the signpost of a file the reading ends
  pub ends-there : GoesByOnePlace → IsFileMark signpost → (file : List ℕ) → IsFileOf known file
      → EndsReading s limits file point.read number subject
  ends-there one_place mark file of =
      let (last, rest, over, ahead_are) = over-in file of in
      no_landmark number subject over.passes
      (λ other_passed other_rest other goes.
      let same = one_place point.read.bytes over.passes.statement over.passes.behind passed other_passed last other_rest signpost other
      over.goes_by goes in
      let one = passed-front point.read.bytes over.passes.statement over.passes.behind passed last signpost over.goes_by in
      let two = passed-front point.read.bytes over.passes.statement over.passes.behind other_passed other_rest other goes in
      let bytes_same : signpost_bytes signpost ++ last ≡ signpost_bytes other ++ other_rest =
      append_cancel_left passed (signpost_bytes signpost ++ last) (signpost_bytes other ++ other_rest)
      (sym one ∙ (two ∙ ap (λ (l : List ℕ). l ++ (signpost_bytes other ++ other_rest)) (sym same))) in
      mark-same signpost other last other_rest mark bytes_same)

  place-is : old.start + count ≡ length (point.read.bytes ++ passed)
  place-is =
      let start = broken.stood.logs.start_is in
      let size = length-take-le count all_bytes passes.within in
      let sum = length-append point.read.bytes passed in
      omega (arith, start, size, sum)

  too-far : (other : Landmark) → signpost ≡ landmark other → IsTooMany limits (old.start + count) → (file : List ℕ) → IsFileOf known file
      → IsPassedTooFar s limits file point.read number subject
  too-far other same many file of =
      let (last, rest, over, ahead_are) = over-in file of in
      record {
        passed = passed;
        found = other;
        rest = last;
        over = subst (λ (x : Signpost). IsPassedOver s limits file point.read passed x last number subject) same over;
        too_many = subst (IsTooMany limits) place-is many;
      }

-- what is told of the bytes in front of which the signpost stands is told of the statement
reach-stays : (old new : Held) (count : ℕ) (own : code.Signpost) (passage : Passage) → PassToGives old count own passage new
    → StaysAt passage old new
reach-stays old new count own (GoesOn there) gives = tt
reach-stays old new count own AtFileMark gives = gives.0
reach-stays old new count own TooLong gives = gives.0
reach-stays old new count own (Sought seeker) gives = absurd gives

module _ (one_place : GoesByOnePlace) (s : Rules) (limits : Limits) (known : Known) (point : Point) (old new : Held)
    (statement behind more : List ℕ) (number : ℕ) (subject : Subject) (begins : ℕ)
    (broken : IsBrokenBy s limits known point old statement behind more number subject begins) (count : ℕ) (own : code.Signpost)
    (signpost : Signpost) (describes : Describes own signpost) (comes : List ℕ → Type 0)
    (come : (file : List ℕ) (of : IsFileOf known file) → comes (more ++ (broken.next_in file of).rest))
    (to : PassesTo comes point.read.bytes statement behind count signpost) where
  reach-gives : (passage : Passage) → PassToGives old count own passage new
      → PassageFor s limits known point statement behind more number subject begins passage new
  reach-gives (GoesOn there) (there_is, none, gives) =
      let (other, same) = no-mark own signpost describes none in
      subst (λ (n : ℕ). PassageFor s limits known point statement behind more number subject begins (GoesOn n) new) (sym there_is)
      (gives s limits known point (take count (statement ++ behind)) (drop count (statement ++ behind) ++ more) number subject begins
      broken.stood
      (place-is s limits known point old statement behind more number subject begins broken count signpost comes come to) to.opened
      (goes-behind s limits known point old statement behind more number subject begins broken count signpost comes come to other same))
  reach-gives AtFileMark (same, mark) = ends-there s limits known point old statement behind more number subject begins broken count
      signpost comes come to one_place (mark-of own signpost describes mark)
  reach-gives TooLong (same, none, many) =
      let (other, is) = no-mark own signpost describes none in
      too-far s limits known point old statement behind more number subject begins broken count signpost comes come to other is
      (many s limits known point broken.stood)
  reach-gives (Sought seeker) never = absurd never

-- ---- the ways to it

abbrev pub FindsLexedInside : List ℕ → List ℕ → Option (ℕ × code.Signpost) → Type 0
FindsLexedInside statement behind found = (state : State) → AreLexed statement state → FindsInside statement behind found

-- where the files end with the statement nothing comes behind it
none-come : (s : Rules) (limits : Limits) (known : Known) (point : Point) (old : Held) (statement behind more : List ℕ) (number : ℕ)
    (subject : Subject) (begins : ℕ) (broken : IsBrokenBy s limits known point old statement behind more number subject begins)
    → behind ≡ []
    → (inside : List ℕ) × EndsInRemark statement inside → (file : List ℕ) (of : IsFileOf known file)
    → more ++ (broken.next_in file of).rest ≡ []
none-come s limits known point old statement behind more number subject begins broken nothing (inside, ends) file of =
    let next = broken.next_in file of in
    let all : point.read.bytes ++ (next.to_pass.statement ++ next.to_pass.behind) ≡ point.read.bytes ++ statement =
    sym next.to_pass.next_are ∙ broken.to_end nothing inside ends file of in
    let own : statement ++ (behind ++ (more ++ next.rest)) ≡ statement ++ [] =
    ap (λ (l : List ℕ). statement ++ l) (sym next.behind_are)
    ∙ (ap (λ (l : List ℕ). l ++ next.to_pass.behind) (sym next.statement_is)
    ∙ (append_cancel_left point.read.bytes (next.to_pass.statement ++ next.to_pass.behind) statement all
    ∙ sym (append-nil statement))) in
    (no-more behind (more ++ next.rest) (append_cancel_left statement (behind ++ (more ++ next.rest)) [] own)).1

pub by-inside : GoesByOnePlace → (old new : Held) (statement behind : List ℕ) (count : ℕ) (own : code.Signpost) (passage : Passage)
    → FindsLexedInside statement behind (Some (count, own)) → PassToGives old count own passage new
    → PassageGives old statement behind passage new
by-inside one_place old new statement behind count own passage found gives = (
  reach-stays old new count own passage gives,
  λ s limits known point more number subject begins broken. elim (found broken.state broken.lexed) [
    | inl in_string ↦ (
        let (signpost, describes, to) = string-passes point.read.bytes statement behind count own broken.state broken.lexed in_string in
        reach-gives one_place s limits known point old new statement behind more number subject begins broken count own signpost describes
        whatever (λ file of. tt) to passage gives)
    | inr (none, nothing, in_remark) ↦ (
        let (signpost, describes, to, ends) = remark-passes point.read.bytes statement behind count own nothing none in_remark in
        reach-gives one_place s limits known point old new statement behind more number subject begins broken count own signpost describes
        (λ bytes. bytes ≡ [])
        (none-come s limits known point old statement behind more number subject begins broken nothing ends) to passage gives)
  ],
)

none-further : (statement behind more : List ℕ) → FindsInside statement behind None → HasNoneInside statement (behind ++ more)
none-further statement behind more (none, none_open) =
    none-in-front statement (behind ++ more) none (λ nothing. none_open (no-more behind more nothing).0)

abbrev pub IsOpenedBy : Held → List ℕ → Type 0
IsOpenedBy held before = IsTrue held.opened ↔ IsOpened before

pub by-seeker : GoesByOnePlace → (old new : Held) (statement behind : List ℕ) (last count : ℕ) (own : code.Signpost) (held : seeking.Held)
    (passage : Passage) → FindsLexedInside statement behind None → last < length behind
    → ((before : List ℕ) → IsOpenedBy old before → IsFound (before ++ statement) [] behind last own held)
    → count ≡ length statement + (last + 1) - length held.begun → PassToGives old count own passage new
    → PassageGives old statement behind passage new
by-seeker one_place old new statement behind last count own held passage none low found count_is gives = (
  reach-stays old new count own passage gives,
  λ s limits known point more number subject begins broken.
      let is = found point.read.bytes broken.stood.logs.opens in
      let size_is : count ≡ length (statement ++ []) + (last + 1) - length held.begun = count_is
      ∙ ap (λ (l : List ℕ). length l + (last + 1) - length held.begun) (sym (append-nil statement)) in
      reach-gives one_place s limits known point old new statement behind more number subject begins broken count own is.signpost
      is.describes whatever (λ file of. tt)
      (seeker-passes point.read.bytes statement [] behind last own held low
      (λ further. none-further statement behind further (none broken.state broken.lexed)) is count size_is) passage gives,
)

pub by-none : (old new : Held) (statement behind : List ℕ) (held : seeking.Held) → new ≡ old → FindsLexedInside statement behind None
    → ((before : List ℕ) → IsOpenedBy old before → Seeks (before ++ statement) behind held)
    → PassageGives old statement behind (Sought held) new
by-none old new statement behind held same none seeks = (
  same,
  λ s limits known point more number subject begins broken. (
    seeks point.read.bytes broken.stood.logs.opens,
    λ further. none-further statement behind further (none broken.state broken.lexed),
  ),
)

-- ---- the next piece

further-none : (statement behind piece : List ℕ) → ((rest : List ℕ) → HasNoneInside statement (behind ++ rest)) → (rest : List ℕ)
    → HasNoneInside statement ((behind ++ piece) ++ rest)
further-none statement behind piece none rest = subst (λ (l : List ℕ). HasNoneInside statement l) (sym (append_assoc behind piece rest))
    (none (piece ++ rest))

pub further-taken : (old : Held) (seeker after : seeking.Held) (taken : ℕ) (piece : List ℕ) → SeeksOn seeker piece None after
    → FurtherGives old seeker taken piece None old after
further-taken old seeker after taken piece gives = (
  refl,
  λ point statement behind sought. (
    (gives (point.read.bytes ++ statement) behind sought.0).0,
    further-none statement behind piece
        sought.1,
  ),
)

-- what stands ahead where it goes on
ahead-of : (old new : Held) (count : ℕ) (own : code.Signpost) (passage : Passage) (bytes ahead : List ℕ)
    → PassToGives old count own passage new → drop count bytes ≡ ahead → AheadIs passage bytes ahead
ahead-of old new count own (GoesOn there) bytes ahead gives is = ap (λ (n : ℕ). drop n bytes) gives.0 ∙ is
ahead-of old new count own AtFileMark bytes ahead gives is = tt
ahead-of old new count own TooLong bytes ahead gives is = tt
ahead-of old new count own (Sought seeker) bytes ahead gives is = absurd gives

pub further-found : GoesByOnePlace → (old new : Held) (seeker after : seeking.Held) (taken last count : ℕ) (piece : List ℕ)
    (own : code.Signpost) (passage : Passage) → last < length piece → SeeksOn seeker piece (Some (last, own)) after
    → count ≡ taken + (last + 1) - length after.begun → PassToGives old count own passage new
    → FurtherGives old seeker taken piece (Some (last + 1, passage)) new after
further-found one_place old new seeker after taken last count piece own passage low found count_is gives = (
  reach-stays old new count own passage gives,
  λ s limits known point statement behind more number subject begins taken_is sought broken.
      let is = found (point.read.bytes ++ statement) behind sought.0 in
      let none = further-none statement behind piece sought.1 in
      let size_is : count ≡ length (statement ++ behind) + (last + 1) - length after.begun = count_is
      ∙ ap (λ (n : ℕ). n + (last + 1) - length after.begun) taken_is in (
        reach-gives one_place s limits known point old new statement (behind ++ piece) more number subject begins broken count own
            is.signpost is.describes whatever (λ file of. tt)
            (seeker-passes point.read.bytes statement behind piece last own after low none is count size_is) passage gives,
        ahead-of old new count own passage (statement ++ (behind ++ piece)) (after.begun ++ drop (last + 1) piece) gives
            (seeker-ahead point.read.bytes statement behind piece last own after low none is count size_is),
      ),
)

-- a signpost that no place of 64 bits is in front of
far-gives : (old : Held) (count : ℕ) (own : code.Signpost) (passage : Passage) → IsTooFarAt own passage → 2 ^ 64 ≤ count
    → PassToGives old count own passage old
far-gives old count own AtFileMark mark far = (refl, mark)
far-gives old count own TooLong none far = (refl, none, λ s limits known point stood. inr (omega (arith, far)))
far-gives old count own (GoesOn there) never far = absurd never
far-gives old count own (Sought seeker) never far = absurd never

pub further-far : GoesByOnePlace → (old : Held) (seeker after : seeking.Held) (taken last : ℕ) (piece : List ℕ) (own : code.Signpost)
    (passage : Passage) → last < length piece → SeeksOn seeker piece (Some (last, own)) after
    → 2 ^ 64 ≤ taken + (last + 1) - length after.begun → IsTooFarAt own passage
    → FurtherGives old seeker taken piece (Some (last + 1, passage)) old after
further-far one_place old seeker after taken last piece own passage low found far is =
    further-found one_place old old seeker after taken last (taken + (last + 1) - length after.begun) piece own passage low found refl
    (far-gives old (taken + (last + 1) - length after.begun) own passage is far)
