-- Where bytes end in a remark that is open, and signposts in it.
use Rattle.std.proofs.Common.{◌≡◌, ◌≢◌, ◌⊎◌, ◌≤◌, ◌<◌, ◌+◌, ◌↔◌, inl, inr, ℕ, zero, suc, Bool, IsTrue, List, [], ◌∷◌, ◌++◌, length, length-append, take, drop, get_or, Option, Some, None, refl, sym, ap, subst, ◌∙◌, append_assoc, append-nil, arith, rules, tests}
use Rattle.std.proofs.lemmas.Bool.{cases_eq, cases_lt}
use Rattle.std.proofs.lemmas.List.{append_cancel_left, drop_all, length-take-le, same_from_push, take-append-drop, take_all, take_more}
use Rattle.p21_spec_exchange.proofs.OneGap.{gap-one}
use Rattle.p21_spec_exchange.specs.Laying.{LaidAs, Lexeme}
use Rattle.p21_spec_exchange.specs.Pending.{IsTail, LaidUpTo, Tail, nothing, open_comment, slash, tail_bytes, unfinished}
use Rattle.p21_spec_exchange.specs.Token.{IsFollowed, Token}
use Rattle.p21_spec_survey.specs.Landmark.{Signpost, StandsAt, signpost_bytes}
use Rattle.p21_spec_survey.specs.Resuming.{EndsInRemark, EndsInString, IsInOpenRemark}
use Rattle.p21_stream_resume.proofs.Lexed.{front-lexed, laid-run, lexed-laid, string-in, tail-of}
use Rattle.p21_stream_resume.proofs.Standing.{StandsBehind, behind-first, behind-on, signpost-some}
use Rattle.p21_stream_resume.proofs.Statements.{closed, followed-on}
use Rattle.p21_stream_resume.specs.Lexing.{AreLexed, IsInRemark, IsInString, LeadsTo, mode_on}
use Rattle.p21_stream_resume.specs.Shape.{Describes}
use Rattle.p21_stream_resume.specs.Standing.{FindsInRemark, FindsNext, FindsThere, StandsInRemark, StandsInString, kept_in}
use Rattle.p21_stream_resume.specs.declared.signpost.Signpost as code
use Rattle.p21_tokens_automaton.proofs.Fits.{ModeFits}
use Rattle.p21_tokens_automaton.proofs.Gaps.{gap}
use Rattle.p21_tokens_automaton.proofs.Sound.{LaidTo, TailIs, UpTo}
use Rattle.p21_tokens_automaton.proofs.Steps.{lex-nil, lex-pass}
use Rattle.p21_tokens_automaton.proofs.Theorems.{laid-up-to, laid_read, tail-is}
use Rattle.p21_tokens_automaton.specs.Reading as lexing
use Rattle.p21_tokens_automaton.specs.Reading.{Answer, Ending, FoundToken, SizedToken, State, after, all_tokens, at_end, ended_token, lex, open_at, start, tokens_at_end, with_last_tokens, without_tokens}
use Rattle.p21_tokens_automaton.specs.Step.{advance}
use Rattle.p21_tokens_automaton.specs.declared.mode.Action.TheVariants.{Pass}
use Rattle.p21_tokens_automaton.specs.declared.mode.Mode.{Mode}
use Rattle.p21_tokens_automaton.specs.declared.mode.Mode.TheVariants.{Between, Comment, Slash, Star}

-- ---- the lexer in a remark

advance-comment : (b : ℕ) → (b ≡ 42 → ⊥) → advance Comment b ≡ Pass Comment
advance-comment b h = search (rules, tests)

advance-star : (b : ℕ) → (b ≡ 42 → ⊥) → (b ≡ 47 → ⊥) → advance Star b ≡ Pass Comment
advance-star b h k = search (rules, tests)

-- bytes in which no `*/` stands
abbrev pub IsOpenText : List ℕ → Type 0
IsOpenText inside = IsTail (open_comment inside)

open-tail : (b : ℕ) (inside : List ℕ) → IsOpenText (b ∷ inside) → IsOpenText inside
open-tail b inside none before_ behind same = none (b ∷ before_) behind (ap (λ (l : List ℕ). b ∷ l) same)

open-front : (inside more : List ℕ) → IsOpenText (inside ++ more) → IsOpenText inside
open-front inside more none before_ behind same = none before_ (behind ++ more) (ap (λ (l : List ℕ). l ++ more) same ∙ append_assoc before_ (42 ∷ 47 ∷ behind) more)

-- from a state on the lexer takes them, and stays in the remark
abbrev StaysIn : State → List ℕ → Type 0
StaysIn s inside = (m : Mode) × IsInRemark m × (lex s inside ≡ without_tokens (open_at (gap m)))

stays-in : (inside : List ℕ) → (IsOpenText inside → StaysIn (gap Comment) inside) × (IsOpenText (42 ∷ inside) → StaysIn (gap Star) inside)
stays-in [] = (λ none. (Comment, tt, lex-nil (gap Comment)), λ none. (Star, tt, lex-nil (gap Star)))
stays-in (b ∷ inside) =
    let (comment, star) = stays-in inside in (
      λ none. elim (cases_eq b 42) [
        | inl is ↦ (
            let (m, in_remark, run) = star (subst (λ (c : ℕ). IsOpenText (c ∷ inside)) is none) in
            (m, in_remark, ap (λ (c : ℕ). lex (gap Comment) (c ∷ inside)) is ∙ (lex-pass (gap Comment) Star 42 inside refl ∙ run)))
        | inr other ↦ (
            let (m, in_remark, run) = comment (open-tail b inside none) in
            (m, in_remark, lex-pass (gap Comment) Comment b inside (advance-comment b other) ∙ run))
      ],
      λ none. elim (cases_eq b 42) [
        | inl is ↦ (
            let (m, in_remark, run) = star (subst (λ (c : ℕ). IsOpenText (c ∷ inside)) is (open-tail 42 (b ∷ inside) none)) in
            (m, in_remark, ap (λ (c : ℕ). lex (gap Star) (c ∷ inside)) is ∙ (lex-pass (gap Star) Star 42 inside refl ∙ run)))
        | inr other ↦ elim (cases_eq b 47) [
          | inl slash_ ↦ absurd (none [] inside (ap (λ (c : ℕ). 42 ∷ c ∷ inside) slash_))
          | inr no_slash ↦ (
              let (m, in_remark, run) = comment (open-tail b inside (open-tail 42 (b ∷ inside) none)) in
              (m, in_remark, lex-pass (gap Star) Comment b inside (advance-star b other no_slash) ∙ run))
        ]
      ],
    )

-- where the bytes end in a remark the lexer stands in one
pub remark-in : (bytes inside : List ℕ) (e : State) → LeadsTo start bytes e → EndsInRemark bytes inside → IsInRemark e.mode
remark-in bytes inside e leads (ls, laid) =
    let (founds, run) = laid-run ls bytes (open_comment inside) (λ none. cc) laid in
    let (m, in_remark, stays) = (stays-in inside).0 (tail-of ls bytes (open_comment inside) laid) in
    let all : lex start (47 ∷ 42 ∷ inside) ≡ without_tokens (open_at (gap m)) = lex-pass start Slash 47 (42 ∷ inside) refl ∙ (lex-pass (gap Slash) Comment 42 inside refl ∙ stays) in
    let same : open_at (gap m) ≡ open_at e = ap (λ (a : Answer). a.ending) (sym (run ∙ ap (λ (a : Answer). after founds a) all)) ∙ leads in
    let mode_is : m ≡ e.mode = cc in
    subst IsInRemark mode_is in_remark

no-token-fits : (m : Mode) (pending characters front : List ℕ) → IsInRemark m → ModeFits m pending characters front → ⊥
no-token-fits Comment pending characters front is fits = fits
no-token-fits Star pending characters front is fits = fits
no-token-fits _ pending characters front is fits = is

-- and where it stands in one the bytes end in it
pub in-remark : (bytes : List ℕ) (e : State) → AreLexed bytes e → IsInRemark e.mode → (inside : List ℕ) × EndsInRemark bytes inside
in-remark bytes e lexed is = by up.0 up.1 up.2
  where
    up : UpTo bytes lexed.lexemes e
    up = lexed-laid bytes e lexed

    by : (tail : Tail) → LaidTo bytes lexed.lexemes (tail_bytes tail) → TailIs e tail → (inside : List ℕ) × EndsInRemark bytes inside
    by nothing l t = absurd (subst (λ (s : State). IsInRemark s.mode) t is)
    by slash l t = absurd (subst (λ (s : State). IsInRemark s.mode) t is)
    by (open_comment inside) l t = (inside, (lexed.lexemes, laid-up-to bytes lexed.lexemes (open_comment inside) l (tail-is e (open_comment inside) t)))
    by (unfinished u) l t = absurd (no-token-fits e.mode e.pending_bytes e.characters u is t.0)

-- ---- fewer bytes of a remark, and more

-- the remark stands last
pub remark-last : (ls : List Lexeme) (bytes inside : List ℕ) → LaidUpTo bytes ls (open_comment inside) → (before_ : List ℕ) × (bytes ≡ before_ ++ (47 ∷ 42 ∷ inside))
remark-last [] bytes inside (gap_, is, separates, own) = (gap_, is)
remark-last (l ∷ ls) bytes inside (gap_, spelling, rest, is, separates, spells, size, followed, laid) =
    let (before_, rest_is) = remark-last ls rest inside laid in
    (gap_ ++ (spelling ++ before_), is ∙ (ap (λ (x : List ℕ). gap_ ++ (spelling ++ x)) rest_is ∙ (ap (λ (x : List ℕ). gap_ ++ x) (sym (append_assoc spelling before_ (47 ∷ 42 ∷ inside))) ∙ sym (append_assoc gap_ (spelling ++ before_) (47 ∷ 42 ∷ inside)))))

cancel-right : (xs ys more : List ℕ) → xs ++ more ≡ ys ++ more → xs ≡ ys
cancel-right [] [] more same = refl
cancel-right [] (y ∷ ys) more same = let size = ap length same in let sum = length-append ys more in absurd (omega (arith, size, sum))
cancel-right (x ∷ xs) [] more same = let size = ap length same in let sum = length-append xs more in absurd (omega (arith, size, sum))
cancel-right (x ∷ xs) (y ∷ ys) more same =
    let first : x ≡ y = cc in
    let rest : xs ++ more ≡ ys ++ more = cc in
    ap (λ (z : ℕ). z ∷ xs) first ∙ ap (λ (l : List ℕ). y ∷ l) (cancel-right xs ys more rest)

followed-front : (token : Token) (spelling before_ rest more : List ℕ) → IsFollowed token spelling ((before_ ++ 47 ∷ rest) ++ more) → IsFollowed token spelling (before_ ++ 47 ∷ rest)
followed-front token spelling [] rest more followed = followed
followed-front token spelling (b ∷ before_) rest more followed = followed

front-laid : (ls : List Lexeme) (front inside more : List ℕ) → LaidUpTo (front ++ more) ls (open_comment (inside ++ more)) → LaidUpTo front ls (open_comment inside)
front-laid [] front inside more (gap_, is, separates, own) =
    (gap_, cancel-right front (gap_ ++ (47 ∷ 42 ∷ inside)) more (is ∙ sym (append_assoc gap_ (47 ∷ 42 ∷ inside) more)), separates, open-front inside more own)
front-laid (l ∷ ls) front inside more (gap_, spelling, rest, is, separates, spells, size, followed, laid) =
    let (before_, rest_is) = remark-last ls rest (inside ++ more) laid in
    let own : List ℕ = before_ ++ (47 ∷ 42 ∷ inside) in
    let rest_more : rest ≡ own ++ more = rest_is ∙ sym (append_assoc before_ (47 ∷ 42 ∷ inside) more) in
    let parts : gap_ ++ (spelling ++ rest) ≡ (gap_ ++ (spelling ++ own)) ++ more =
    ap (λ (l_ : List ℕ). gap_ ++ (spelling ++ l_)) rest_more ∙ (ap (λ (l_ : List ℕ). gap_ ++ l_) (sym (append_assoc spelling own more)) ∙ sym (append_assoc gap_ (spelling ++ own) more)) in (
      gap_,
      spelling,
      own,
      cancel-right front (gap_ ++ (spelling ++ own)) more (is ∙ parts),
      separates,
      spells,
      size,
      followed-front l.token spelling before_ (42 ∷ inside) more (subst (λ (l_ : List ℕ). IsFollowed l.token spelling l_) rest_more followed),
      front-laid ls own inside more (subst (λ (l_ : List ℕ). LaidUpTo l_ ls (open_comment (inside ++ more))) rest_more laid),
    )

-- in which some of them end, these end too
pub remark-front : (front inside more : List ℕ) → EndsInRemark (front ++ more) (inside ++ more) → EndsInRemark front inside
remark-front front inside more (ls, laid) = (ls, front-laid ls front inside more laid)

pub more-laid : (ls : List Lexeme) (bytes inside more : List ℕ) → LaidUpTo bytes ls (open_comment inside) → IsOpenText (inside ++ more) → LaidUpTo (bytes ++ more) ls (open_comment (inside ++ more))
more-laid [] bytes inside more (gap_, is, separates, own) open_ = (gap_, ap (λ (l : List ℕ). l ++ more) is ∙ append_assoc gap_ (47 ∷ 42 ∷ inside) more, separates, open_)
more-laid (l ∷ ls) bytes inside more (gap_, spelling, rest, is, separates, spells, size, followed, laid) open_ = (
  gap_,
  spelling,
  rest ++ more,
  ap (λ (x : List ℕ). x ++ more) is ∙ (append_assoc gap_ (spelling ++ rest) more ∙ ap (λ (x : List ℕ). gap_ ++ x) (append_assoc spelling rest more)),
  separates,
  spells,
  size,
  followed-on l.token spelling rest more ls inside laid followed,
  more-laid ls rest inside more laid open_,
)

-- in a remark no bytes may end
no-end : (s : State) → IsInRemark s.mode → (founds : List SizedToken) → at_end (open_at s) ≡ Some founds → ⊥
no-end s is founds has = by s.mode refl is
  where
    by : (m : Mode) → s.mode ≡ m → IsInRemark m → ⊥
    by Comment same in_remark = let clash : (let o : Option (List SizedToken) = None in o) ≡ Some founds = ap (λ (x : Mode). at_end (open_at (record s { mode = x }))) (sym same) ∙ has in cc
    by Star same in_remark = let clash : (let o : Option (List SizedToken) = None in o) ≡ Some founds = ap (λ (x : Mode). at_end (open_at (record s { mode = x }))) (sym same) ∙ has in cc
    by _ same in_remark = in_remark

some-last : (given : List SizedToken) (last : Option (List SizedToken)) (founds : List SizedToken) → with_last_tokens given last ≡ Some founds → (own : List SizedToken) × (last ≡ Some own)
some-last given None founds has = let clash = has in cc
some-last given (Some own) founds has = (own, refl)

pub not-laid : (bytes : List ℕ) (ls : List Lexeme) (e : State) → LeadsTo start bytes e → IsInRemark e.mode → LaidAs bytes ls → ⊥
not-laid bytes ls e leads is laid =
    let (founds, has, mean) = laid_read ls bytes laid in
    let (own, last_is) = some-last (lex start bytes).given (at_end (lex start bytes).ending) founds has in
    no-end e is own (ap at_end (sym leads) ∙ last_is)

by-last : (xs : List ℕ) (x : ℕ) → (front : List ℕ) × (last : ℕ) × (x ∷ xs ≡ front ++ last ∷ [])
by-last [] x = ([], x, refl)
by-last (y ∷ xs) x = let (front, last, is) = by-last xs y in (x ∷ front, last, ap (λ (l : List ℕ). x ∷ l) is)

-- a byte more with which no `*/` ends
pub open-on : (inside : List ℕ) (b : ℕ) → IsOpenText inside → ((before_ : List ℕ) → inside ≡ before_ ++ 42 ∷ [] → b ≡ 47 → ⊥) → IsOpenText (inside ++ b ∷ [])
open-on inside b none other before_ [] same =
    let (front_is, last_is) = same_from_push inside (before_ ++ 42 ∷ []) b 47 (same ∙ sym (append_assoc before_ (42 ∷ []) (47 ∷ []))) in
    other before_ front_is last_is
open-on inside b none other before_ (x ∷ behind) same =
    let (front, last, is) = by-last behind x in
    let whole : inside ++ b ∷ [] ≡ (before_ ++ (42 ∷ 47 ∷ front)) ++ last ∷ [] = same ∙ (ap (λ (l : List ℕ). before_ ++ (42 ∷ 47 ∷ l)) is ∙ sym (append_assoc before_ (42 ∷ 47 ∷ front) (last ∷ []))) in
    none before_ front (same_from_push inside (before_ ++ (42 ∷ 47 ∷ front)) b last whole).0

-- a byte behind which the lexer stands in a remark leaves it open
pub remark-on : (bytes inside : List ℕ) (b : ℕ) (e : State) → EndsInRemark bytes inside → LeadsTo start (bytes ++ b ∷ []) e → IsInRemark e.mode → EndsInRemark (bytes ++ b ∷ []) (inside ++ b ∷ [])
remark-on bytes inside b e (ls, laid) leads is = (ls, more-laid ls bytes inside (b ∷ []) laid (open-on inside b (tail-of ls bytes (open_comment inside) laid) ended))
  where
    ended : (before_ : List ℕ) → inside ≡ before_ ++ 42 ∷ [] → b ≡ 47 → ⊥
    ended before_ inside_is slash_ =
        let (first, bytes_are) = remark-last ls bytes inside laid in
        let front : List ℕ = first ++ (47 ∷ 42 ∷ before_) in
        let front_is : bytes ≡ front ++ 42 ∷ [] = bytes_are ∙ (ap (λ (l : List ℕ). first ++ (47 ∷ 42 ∷ l)) inside_is ∙ sym (append_assoc first (47 ∷ 42 ∷ before_) (42 ∷ []))) in
        let own : LaidUpTo (front ++ 42 ∷ []) ls (open_comment (before_ ++ 42 ∷ [])) =
        subst (λ (l : List ℕ). LaidUpTo l ls (open_comment (before_ ++ 42 ∷ []))) front_is (subst (λ (l : List ℕ). LaidUpTo bytes ls (open_comment l)) inside_is laid) in
        let whole : LaidAs (front ++ (42 ∷ 47 ∷ [])) ls = closed ls front before_ (front-laid ls front before_ (42 ∷ []) own) in
        let same : bytes ++ b ∷ [] ≡ front ++ (42 ∷ 47 ∷ []) = ap (λ (l : List ℕ). l ++ b ∷ []) front_is ∙ (append_assoc front (42 ∷ []) (b ∷ []) ∙ ap (λ (c : ℕ). front ++ (42 ∷ c ∷ [])) slash_) in
        not-laid (bytes ++ b ∷ []) ls e leads is (subst (λ (l : List ℕ). LaidAs l ls) (sym same) whole)

-- ---- since when a remark is open

pub remark-here : (bytes : List ℕ) (e : State) → AreLexed bytes e → IsInRemark e.mode → IsInOpenRemark bytes bytes
remark-here bytes e lexed is =
    let (inside, ends) = in-remark bytes e lexed is in
    (inside, [], sym (append-nil bytes), ends, subst (λ (l : List ℕ). EndsInRemark bytes l) (sym (append-nil inside)) ends)

pub open-since : (front bytes : List ℕ) (b : ℕ) (e : State) → IsInOpenRemark front bytes → LeadsTo start (bytes ++ b ∷ []) e → IsInRemark e.mode → IsInOpenRemark front (bytes ++ b ∷ [])
open-since front bytes b e (inside, more, are, first, all) leads is = (
  inside,
  more ++ b ∷ [],
  ap (λ (l : List ℕ). l ++ b ∷ []) are ∙ append_assoc front more (b ∷ []),
  first,
  subst (λ (l : List ℕ). EndsInRemark (bytes ++ b ∷ []) l) (append_assoc inside more (b ∷ [])) (remark-on bytes (inside ++ more) b e all leads is),
)

-- it was open behind each byte since then
pub open-between : (front between rest : List ℕ) → IsInOpenRemark front ((front ++ between) ++ rest) → IsInOpenRemark front (front ++ between)
open-between front between rest (inside, more, are, first, all) =
    let more_is : more ≡ between ++ rest = append_cancel_left front more (between ++ rest) (sym are ∙ append_assoc front between rest) in (
      inside,
      between,
      refl,
      first,
      remark-front (front ++ between) (inside ++ between) rest
          (subst (λ (l : List ℕ). EndsInRemark ((front ++ between) ++ rest) l) (ap (λ (l : List ℕ). inside ++ l) more_is ∙ sym (append_assoc inside between rest)) all),
    )

-- ---- signposts in it

-- a signpost stands behind so many bytes, in the remark in which so many end
pub record StandsOpen (statement : List ℕ) (count place : ℕ) (signpost : Signpost) : Type 0 where
  pub in_remark : IsInOpenRemark (take place statement) (take count statement)
  pub stands : StandsAt (take place statement) (drop place statement) signpost

-- the first one that does so is found
abbrev pub FindsOpen : List ℕ → ℕ → Option (ℕ × code.Signpost) → Type 0
FindsOpen statement count None = (place : ℕ) (signpost : Signpost) → place < count → StandsOpen statement count place signpost → ⊥
FindsOpen statement count (Some (place, own)) = (place < count) × ((signpost : Signpost) × StandsOpen statement count place signpost × Describes own signpost)
    × ((earlier : ℕ) (signpost : Signpost) → earlier < count → StandsOpen statement count earlier signpost → place ≤ earlier)

pub record IsAlong (statement : List ℕ) (count : ℕ) (m : Mode) (last : ℕ) (found : Option (ℕ × code.Signpost)) : Type 0 where
  pub lexing : StandsBehind statement count m last
  pub finds : FindsOpen statement count found

pub along-first : (statement : List ℕ) → IsAlong statement 0 lexing.start.mode 0 None
along-first statement = record { lexing = behind-first statement; finds = λ place signpost low stands. omega (arith, low) }

-- fewer bytes at the front are those of more
pub front-part : (i j : ℕ) → i ≤ j → (bytes : List ℕ) → (between : List ℕ) × (take j bytes ≡ take i bytes ++ between)
front-part zero j near bytes = (take j bytes, refl)
front-part (suc i) zero near bytes = absurd (omega (arith, near))
front-part (suc i) (suc j) near [] = ([], refl)
front-part (suc i) (suc j) near (x ∷ bytes) = let (between, is) = front-part i j (omega (arith, near)) bytes in (between, ap (λ (l : List ℕ). x ∷ l) is)

module _ (statement : List ℕ) (count : ℕ) (low : count < length statement) where
  abbrev b : ℕ
  b = get_or statement count 0

  more : take (count + 1) statement ≡ take count statement ++ b ∷ []
  more = take_more statement count 0 low

  fewer-open : (place : ℕ) (signpost : Signpost) → place ≤ count → StandsOpen statement (count + 1) place signpost → StandsOpen statement count place signpost
  fewer-open place signpost near stands =
      let (between, parts) = front-part place count near statement in
      let all : IsInOpenRemark (take place statement) ((take place statement ++ between) ++ b ∷ []) =
      subst (λ (l : List ℕ). IsInOpenRemark (take place statement) l) (more ∙ ap (λ (l : List ℕ). l ++ b ∷ []) parts) stands.in_remark in
      record {
        in_remark = subst (λ (l : List ℕ). IsInOpenRemark (take place statement) l) (sym parts) (open-between (take place statement) between (b ∷ []) all);
        stands = stands.stands;
      }

-- a signpost stands in front of the end
stands-within : (statement : List ℕ) (place : ℕ) (signpost : Signpost) → StandsAt (take place statement) (drop place statement) signpost → place < length statement
stands-within statement place signpost stands = elim (cases_lt place (length statement)) [
  | inl low ↦ low
  | inr far ↦ (
      let size = ap length (sym (drop_all place statement far) ∙ stands.bytes_are) in
      let sum = length-append (signpost_bytes signpost) stands.rest in
      let some = signpost-some signpost in
      absurd (omega (arith, size, sum, some)))
]

is-either : (m : Mode) → (IsInRemark m → ⊥) ⊎ (IsInRemark m × ((found : Option (ℕ × code.Signpost)) → kept_in m found ≡ found))
is-either Comment = inr (tt, λ found. refl)
is-either Star = inr (tt, λ found. refl)
is-either _ = inl (λ is. is)

kept-none : (m : Mode) (found : Option (ℕ × code.Signpost)) → (IsInRemark m → ⊥) → kept_in m found ≡ None
kept-none Comment found other = absurd (other tt)
kept-none Star found other = absurd (other tt)
kept-none _ found other = refl

module _ (statement : List ℕ) (e : State) (all_lexed : AreLexed statement e) (count : ℕ) (m : Mode) (last : ℕ) (low : count < length statement) where
  abbrev byte : ℕ
  byte = get_or statement count 0

  abbrev next_mode : Mode
  next_mode = mode_on m last byte

  module _ (found next : Option (ℕ × code.Signpost)) (along : IsAlong statement count m last found) (finds : FindsNext statement count m found next) where
    behind : StandsBehind statement (count + 1) next_mode byte
    behind = behind-on statement e all_lexed count m last low along.lexing

    leads : LeadsTo start (take count statement ++ byte ∷ []) behind.state
    leads = subst (λ (l : List ℕ). LeadsTo start l behind.state) (more statement count low) behind.lexed.leads

    -- behind the next byte the remark is open still
    open-still : IsInRemark next_mode → (place : ℕ) (signpost : Signpost) → StandsOpen statement count place signpost → StandsOpen statement (count + 1) place signpost
    open-still is place signpost stands = record {
      in_remark = subst (λ (l : List ℕ). IsInOpenRemark (take place statement) l) (sym (more statement count low))
          (open-since (take place statement) (take count statement) byte behind.state stands.in_remark leads (subst IsInRemark behind.mode_is is));
      stands = stands.stands;
    }

    -- what is open stands in a remark
    in-one : (place : ℕ) (signpost : Signpost) → StandsOpen statement count place signpost → IsInRemark m
    in-one place signpost there =
        let (inside, more_, are, first, ends) = there.in_remark in
        subst IsInRemark (sym along.lexing.mode_is) (remark-in (take count statement) (inside ++ more_) along.lexing.state along.lexing.lexed.leads ends)

    none-next : (IsInRemark next_mode → ⊥) → FindsOpen statement (count + 1) None
    none-next other place signpost near stands =
        let (inside, more_, are, first, ends) = stands.in_remark in
        other (subst IsInRemark (sym behind.mode_is) (remark-in (take (count + 1) statement) (inside ++ more_) behind.state behind.lexed.leads ends))

    by : (own own_next : Option (ℕ × code.Signpost)) → IsInRemark next_mode → FindsOpen statement count own → FindsNext statement count m own own_next → FindsOpen statement (count + 1) own_next
    by (Some (place, own)) own_next is (near, (signpost, stands, describes), first) same =
        subst (λ (o : Option (ℕ × code.Signpost)). FindsOpen statement (count + 1) o) (sym same) (
          omega (arith, near),
          (signpost, open-still is place signpost stands, describes),
          λ earlier other low_ there. elim (cases_lt earlier count) [ inl before_ ↦ first earlier other before_ (fewer-open statement count low earlier other (omega (arith, before_)) there) | inr far ↦ omega (arith, near, far) ],
        )
    by None None is none here = λ place signpost near there.
        let own = fewer-open statement count low place signpost (omega (arith, near)) there in
        elim (cases_lt place count) [
          | inl before_ ↦ none place signpost before_ own
          | inr far ↦ (
              let equal : place ≡ count = omega (arith, near, far) in
              here (in-one place signpost own) signpost (subst (λ (n : ℕ). StandsAt (take n statement) (drop n statement) signpost) equal own.stands))
        ]
    by None (Some (there, own)) is none (in_remark, there_is, (signpost, stands, describes)) =
        let here : IsInOpenRemark (take count statement) (take count statement) = remark-here (take count statement) along.lexing.state along.lexing.lexed (subst IsInRemark along.lexing.mode_is in_remark) in
        subst (λ (n : ℕ). FindsOpen statement (count + 1) (Some (n, own))) (sym there_is) (
          omega arith,
          (signpost, open-still is count signpost (record { in_remark = here; stands = stands }), describes),
          λ earlier other low_ there_. elim (cases_lt earlier count) [
            | inl before_ ↦ absurd (none earlier other before_ (fewer-open statement count low earlier other (omega (arith, before_)) there_))
            | inr far ↦ far
          ],
        )

    pub along-on : IsAlong statement (count + 1) next_mode byte (kept_in next_mode next)
    along-on = record {
      lexing = behind;
      finds = elim (is-either next_mode) [
        | inl other ↦ subst (λ (o : Option (ℕ × code.Signpost)). FindsOpen statement (count + 1) o) (sym (kept-none next_mode next other)) (none-next other)
        | inr (is, kept) ↦ subst (λ (o : Option (ℕ × code.Signpost)). FindsOpen statement (count + 1) o) (sym (kept next)) (by found next is along.finds finds)
      ];
    }

-- all of it
pub along-all : (statement : List ℕ) (count : ℕ) (m : Mode) (last : ℕ) (found : Option (ℕ × code.Signpost)) → length statement ≤ count → IsAlong statement count m last found → FindsInRemark statement found
along-all statement count m last found all along = by found along.finds
  where
    whole : take count statement ≡ statement
    whole = take_all count statement all

    -- a signpost in the remark is one that is open
    opened : (place : ℕ) (signpost : Signpost) → StandsInRemark statement place signpost → StandsOpen statement count place signpost
    opened place signpost stands = record { in_remark = subst (λ (l : List ℕ). IsInOpenRemark (take place statement) l) (sym whole) stands.in_remark; stands = stands.stands }

    near : (place : ℕ) (signpost : Signpost) → StandsInRemark statement place signpost → place < count
    near place signpost stands = let low = stands-within statement place signpost stands.stands in omega (arith, low, all)

    by : (own : Option (ℕ × code.Signpost)) → FindsOpen statement count own → FindsInRemark statement own
    by None none = λ place signpost stands. none place signpost (near place signpost stands) (opened place signpost stands)
    by (Some (place, own)) (low, (signpost, stands, describes), first) = (
      (
        signpost,
        record {
          within = let low_ = stands-within statement place signpost stands.stands in omega (arith, low_);
          in_remark = subst (λ (l : List ℕ). IsInOpenRemark (take place statement) l) whole stands.in_remark;
          stands = stands.stands;
        },
        describes,
      ),
      λ earlier other there. first earlier other (near earlier other there) (opened earlier other there),
    )

-- ---- remarks stand behind strings

past : (front more_ : List ℕ) (place : ℕ) → length front ≤ place → (between : List ℕ) × (take place (front ++ more_) ≡ front ++ between)
past [] more_ place low = (take place more_, refl)
past (x ∷ front) more_ zero low = absurd (omega (arith, low))
past (x ∷ front) more_ (suc place) low = let (between, is) = past front more_ place (omega (arith, low)) in (between, ap (λ (l : List ℕ). x ∷ l) is)

pub in-both : (m : Mode) → IsInRemark m → IsInString m → ⊥
in-both Comment is also = also
in-both Star is also = also
in-both _ is also = is

-- no string is open where a remark is that stays open
pub string-first : (statement front : List ℕ) (place : ℕ) (e : State) → AreLexed statement e → EndsInString (take place statement) → IsInOpenRemark front statement → place ≤ length front
string-first statement front place e lexed in_string is = elim (cases_lt (length front) place) [
  | inr near ↦ near
  | inl far ↦ (
      let (between, bytes_are) = past front is.1 place (omega (arith, far)) in
      let bytes : take place statement ≡ front ++ between = ap (λ (l : List ℕ). take place l) is.2 ∙ bytes_are in
      let rest : List ℕ = drop place statement in
      let parts : statement ≡ (front ++ between) ++ rest = sym (take-append-drop place statement) ∙ ap (λ (l : List ℕ). l ++ rest) bytes in
      let (inside, more_, are, first, ends) = open-between front between rest (subst (λ (l : List ℕ). IsInOpenRemark front l) parts is) in
      let (f, own) = front-lexed (front ++ between) rest e (subst (λ (l : List ℕ). AreLexed l e) parts lexed) in
      absurd (in-both f.between.mode (remark-in (front ++ between) (inside ++ more_) f.between own.leads ends) (string-in (front ++ between) f.between own.leads (subst EndsInString bytes in_string))))
]
