-- Where no remark ends, each runs on to the end of the bytes.
use Rattle.std.proofs.Common.{◌≡◌, ◌⊎◌, ◌≤◌, ◌<◌, ◌+◌, inl, inr, ℕ, List, [], ◌∷◌, ◌++◌, length, take, drop, get_or, Option, Some, None, refl, sym, ap, subst, ◌∙◌, append_assoc, arith}
use Rattle.std.proofs.lemmas.Bool.{cases_lt}
use Rattle.std.proofs.lemmas.List.{length-take-le, take-append-drop}
use Rattle.p21_spec_exchange.specs.Laying.{LaidAs, Lexeme}
use Rattle.p21_spec_survey.specs.Landmark.{Signpost}
use Rattle.p21_spec_survey.specs.Resuming.{EndsInRemark, EndsInString, IsInOpenRemark}
use Rattle.p21_stream_resume.proofs.Lexed.{front-lexed, string-in}
use Rattle.p21_stream_resume.proofs.OpenRemarks as remarks
use Rattle.p21_stream_resume.proofs.OpenRemarks.{front-part, in-both, in-remark, more-laid, not-laid, open-between, remark-in, remark-last, string-first}
use Rattle.p21_stream_resume.proofs.Standing as strings
use Rattle.p21_stream_resume.proofs.Statements.{closed, laid-lexed}
use Rattle.p21_stream_resume.specs.Lexing.{AreLexed, IsInRemark, IsInString, mode_on}
use Rattle.p21_stream_resume.specs.Standing.{EndsNoRemark, FindsInString, FindsInText, FindsThere, StandsInRemark, kept_in}
use Rattle.p21_stream_resume.specs.declared.signpost.Signpost as code
use Rattle.p21_tokens_automaton.specs.Reading.{State, start}
use Rattle.p21_tokens_automaton.specs.declared.mode.Mode.{Mode}
use Rattle.p21_tokens_automaton.specs.declared.mode.Mode.TheVariants.{Comment, Star}

-- of bytes that end none those behind some end none
pub none-behind : (front bytes : List ℕ) → EndsNoRemark (front ++ bytes) → EndsNoRemark bytes
none-behind front bytes none before after is = none (front ++ before) after (ap (λ (l : List ℕ). front ++ l) is ∙ sym (append_assoc front before (42 ∷ 47 ∷ after)))

-- a remark that is open stays open
pub ends-further : (bytes inside more : List ℕ) → EndsNoRemark (bytes ++ more) → EndsInRemark bytes inside → EndsInRemark (bytes ++ more) (inside ++ more)
ends-further bytes inside more none (ls, laid) =
    let (before, is) = remark-last ls bytes inside laid in
    let front : List ℕ = before ++ (47 ∷ 42 ∷ []) in
    let parts : bytes ++ more ≡ front ++ (inside ++ more) =
    ap (λ (l : List ℕ). l ++ more) (is ∙ sym (append_assoc before (47 ∷ 42 ∷ []) inside)) ∙ append_assoc front inside more in
    (ls, more-laid ls bytes inside more laid (none-behind front (inside ++ more) (subst EndsNoRemark parts none)))

-- a lexer takes the bytes and stands in it, and no tokens are laid in them
pub record EndsOpen (bytes : List ℕ) : Type 0 where
  pub state : State
  pub lexed : AreLexed bytes state
  pub in_remark : IsInRemark state.mode
  pub unlaid : (ls : List Lexeme) → LaidAs bytes ls → ⊥

pub ends-open : (bytes inside : List ℕ) → EndsInRemark bytes inside → EndsOpen bytes
ends-open bytes inside (ls, laid) =
    let (behind, all) = laid-lexed (bytes ++ (42 ∷ 47 ∷ [])) ls (closed ls bytes inside laid) in
    let (front, lexed) = front-lexed bytes (42 ∷ 47 ∷ []) behind all in
    let is = remark-in bytes inside front.between lexed.leads (ls, laid) in
    record { state = front.between; lexed = lexed; in_remark = is; unlaid = λ own own_laid. not-laid bytes own front.between lexed.leads is own_laid }

-- ---- signposts

-- the lexer stands in this mode behind so many bytes, and no signpost stands in front in a string or in a remark that is open
pub record IsAlong (statement : List ℕ) (count : ℕ) (m : Mode) (last : ℕ) : Type 0 where
  pub in_strings : strings.IsAlong statement count m last
  pub in_remarks : remarks.IsAlong statement count m last None

pub along-first : (statement : List ℕ) → IsAlong statement 0 start.mode 0
along-first statement = record { in_strings = strings.along-first statement; in_remarks = remarks.along-first statement }

kept-none : (m : Mode) → kept_in m None ≡ None
kept-none Comment = refl
kept-none Star = refl
kept-none _ = refl

pub along-on : (statement : List ℕ) (e : State) → AreLexed statement e → (count : ℕ) (m : Mode) (last : ℕ) → count < length statement → IsAlong statement count m last
    → (IsInString m ⊎ IsInRemark m → FindsThere (take count statement) (drop count statement) None) → IsAlong statement (count + 1) (mode_on m last (get_or statement count 0)) (get_or statement count 0)
along-on statement e lexed count m last low along none =
    let b : ℕ = get_or statement count 0 in
    let next : Mode = mode_on m last b in
    record {
      in_strings = strings.along-on statement e lexed count m last low along.in_strings (λ is. none (inl is));
      in_remarks = subst (λ (o : Option (ℕ × code.Signpost)). remarks.IsAlong statement (count + 1) next b o) (kept-none next)
          (remarks.along-on statement e lexed count m last low None None along.in_remarks (λ is. none (inr is)));
    }

pub along-all : (statement : List ℕ) (count : ℕ) (m : Mode) (last : ℕ) → length statement ≤ count → IsAlong statement count m last → FindsInText statement None
along-all statement count m last all along = (strings.along-all statement count m last all along.in_strings, remarks.along-all statement count m last None all along.in_remarks)

-- what stands there is the first
pub along-found : (statement : List ℕ) (e : State) → AreLexed statement e → EndsNoRemark statement → (count : ℕ) (m : Mode) (last : ℕ) (own : code.Signpost) → count ≤ length statement → IsAlong statement count m last
    → IsInString m ⊎ IsInRemark m → FindsThere (take count statement) (drop count statement) (Some own) → FindsInText statement (Some (count, own))
along-found statement e lexed none count m last own within along (inl is) there = inl (strings.along-found statement count m last own within along.in_strings is there)
along-found statement e lexed none count m last own within along (inr is) (signpost, stands, describes) = inr (no-string, ((signpost, here, describes), first))
  where
    front : List ℕ
    front = take count statement

    rest : List ℕ
    rest = drop count statement

    parts : front ++ rest ≡ statement
    parts = take-append-drop count statement

    behind : strings.StandsBehind statement count m last
    behind = along.in_strings.lexing

    in_remark : IsInRemark behind.state.mode
    in_remark = subst IsInRemark behind.mode_is is

    opened : IsInOpenRemark front statement
    opened =
        let (inside, ends) = in-remark front behind.state behind.lexed in_remark in
        (inside, rest, sym parts, ends, subst (λ (l : List ℕ). EndsInRemark l (inside ++ rest)) parts (ends-further front inside rest (subst EndsNoRemark (sym parts) none) ends))

    here : StandsInRemark statement count signpost
    here = record { within = within; in_remark = opened; stands = stands }

    first : (earlier : ℕ) (other : Signpost) → StandsInRemark statement earlier other → count ≤ earlier
    first earlier other there = elim (cases_lt earlier count) [
      | inr far ↦ far
      | inl low ↦ (
          let (between, is_) = front-part earlier count (omega (arith, low)) statement in
          let whole : statement ≡ (take earlier statement ++ between) ++ rest = sym parts ∙ ap (λ (l : List ℕ). l ++ rest) is_ in
          let all : IsInOpenRemark (take earlier statement) front =
          subst (λ (l : List ℕ). IsInOpenRemark (take earlier statement) l) (sym is_) (open-between (take earlier statement) between rest (subst (λ (l : List ℕ). IsInOpenRemark (take earlier statement) l) whole there.in_remark)) in
          absurd (along.in_remarks.finds earlier other low (record { in_remark = all; stands = there.stands })))
    ]

    no-string : FindsInString statement None
    no-string place other there =
        let far = along.in_strings.none place other there in
        let near = string-first statement front place e lexed there.in_string opened in
        let size = length-take-le count statement within in
        let equal : place ≡ count = omega (arith, far, near, size) in
        let ends : EndsInString front = subst (λ (n : ℕ). EndsInString (take n statement)) equal there.in_string in
        in-both behind.state.mode in_remark (string-in front behind.state behind.lexed.leads ends)
