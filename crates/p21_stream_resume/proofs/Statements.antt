-- A whole statement has no signpost inside where none is found in a string of it: it ends in no remark.
use Rattle.std.proofs.Common.{◌≡◌, inl, inr, ℕ, List, [], ◌∷◌, ◌++◌, length, length-append, take, drop, Option, Some, None, refl, sym, ap, subst, ◌∙◌, append_assoc, append-nil, arith}
use Rattle.std.proofs.lemmas.List.{drop_at, take_at}
use Rattle.std.proofs.lemmas.Grind.{flat_map-append}
use Rattle.std.specs.List.{flat_map}
use Rattle.p21_spec_basics.proofs.Members.{Each-append}
use Rattle.p21_spec_exchange.specs.Laying.{LaidAs, Lexeme, tokens_in}
use Rattle.p21_spec_exchange.specs.OpenNesting.{EndsWithSemicolon}
use Rattle.p21_spec_exchange.specs.Pending.{IsTail, LaidUpTo, open_comment}
use Rattle.p21_spec_exchange.specs.Separator.{IsCommentText, IsSeparator, IsSeparatorText, comment, separator_bytes}
use Rattle.p21_spec_exchange.specs.Token.{IsFollowed, IsWholeAtOnce, Token, semicolon}
use Rattle.p21_spec_survey.specs.Landmark.{StandsAt, signpost_bytes}
use Rattle.p21_spec_survey.specs.Resuming.{EndsInRemark, EndsInString, HasNoneInside}
use Rattle.p21_spec_survey.specs.Whole.{AreWhole}
use Rattle.p21_stream_resume.proofs.Lexed.{mean-front, none-laid}
use Rattle.p21_stream_resume.specs.Lexing.{AreLexed}
use Rattle.p21_stream_resume.specs.Standing.{FindsInString}
use Rattle.p21_tokens_automaton.proofs.Complete.{all_tokens-after}
use Rattle.p21_tokens_automaton.proofs.Gaps.{gap, gap-run}
use Rattle.p21_tokens_automaton.proofs.Prefixes.{front-run, spelling-some}
use Rattle.p21_tokens_automaton.proofs.Steps.{lex-give, lex-nil, lex-pass}
use Rattle.p21_tokens_automaton.proofs.Theorems.{laid_read}
use Rattle.p21_tokens_automaton.specs.Meaning.{MeanAll}
use Rattle.p21_tokens_automaton.specs.Reading.{Answer, Ending, SizedToken, State, after, all_tokens, at_end, before, ended_token, known, lex, open_at, single_token, start, stopped, tokens_at_end, with_last_tokens, without_tokens}
use Rattle.p21_tokens_automaton.specs.declared.mode.Mode.TheVariants.{Slash}
use Rattle.p21_tokens_automaton.specs.declared.mode.Single.TheVariants as single

-- ---- bytes in which tokens are laid

given-front : (given : List SizedToken) (last : Option (List SizedToken)) (founds : List SizedToken) (lexemes : List Lexeme) → with_last_tokens given last ≡ Some founds → MeanAll founds lexemes → (ms : List Lexeme) × MeanAll given ms
given-front given None founds lexemes has mean = let clash = has in cc
given-front given (Some last) founds lexemes has mean =
    let same : given ++ last ≡ founds = cc in mean-front given last lexemes (subst (λ (x : List SizedToken). MeanAll x lexemes) (sym same) mean)

-- a lexer takes them
pub laid-lexed : (bytes : List ℕ) (lexemes : List Lexeme) → LaidAs bytes lexemes → (e : State) × AreLexed bytes e
laid-lexed bytes lexemes laid = let (founds, all, mean) = laid_read lexemes bytes laid in by founds mean (lex start bytes).ending refl all
  where
    by : (founds : List SizedToken) → MeanAll founds lexemes → (ending : Ending) → (lex start bytes).ending ≡ ending → all_tokens (lex start bytes) ≡ Some founds → (e : State) × AreLexed bytes e
    by founds mean (stopped wrong) is all =
        let clash : with_last_tokens (lex start bytes).given None ≡ Some founds = ap (λ (x : Ending). with_last_tokens (lex start bytes).given (at_end x)) (sym is) ∙ all in cc
    by founds mean (open_at e) is all =
        let has : with_last_tokens (lex start bytes).given (tokens_at_end (ended_token e) e.mode e.size) ≡ Some founds = ap (λ (x : Ending). with_last_tokens (lex start bytes).given (at_end x)) (sym is) ∙ all in
        let (ms, own) = given-front (lex start bytes).given (tokens_at_end (ended_token e) e.mode e.size) founds lexemes has mean in
        (e, record { leads = is; lexemes = ms; mean = own })

-- ---- a remark that is open

-- the bytes that end it
abbrev ending : List ℕ
ending = 42 ∷ 47 ∷ []

comment-text : (inside : List ℕ) → IsTail (open_comment inside) → IsCommentText inside
comment-text [] none [] after same = cc
comment-text [] none (x ∷ before_) after same =
    let size = ap length same in let sum = length-append before_ (42 ∷ 47 ∷ after) in absurd (omega (arith, size, sum))
comment-text (b ∷ []) none [] after same = let clash : (let x : ℕ = 42 in x) ≡ 47 = cc in absurd (omega (arith, clash))
comment-text (b ∷ c ∷ inside) none [] after same =
    let star : b ≡ 42 = cc in
    let slash : c ≡ 47 = cc in
    absurd (none [] inside (ap (λ (x : ℕ). x ∷ c ∷ inside) star ∙ ap (λ (x : ℕ). 42 ∷ x ∷ inside) slash))
comment-text (b ∷ inside) none (x ∷ before_) after same =
    let first : b ≡ x = cc in
    let rest : inside ++ ending ≡ before_ ++ (42 ∷ 47 ∷ after) = cc in
    comment-text inside (λ front behind is. none (b ∷ front) behind (ap (λ (l : List ℕ). b ∷ l) is)) before_ after rest

separators-joined : (front other : List ℕ) → IsSeparatorText front → IsSeparatorText other → IsSeparatorText (front ++ other)
separators-joined front other (us, are, is) (vs, are_, is_) = (
  us ++ vs,
  Each-append IsSeparator us vs are are_,
  ap (λ (x : List ℕ). x ++ other) is ∙ (ap (λ (x : List ℕ). flat_map separator_bytes us ++ x) is_ ∙ sym (flat_map-append separator_bytes us vs)),
)

pub followed-on : (token : Token) (spelling rest more : List ℕ) (ls : List Lexeme) (inside : List ℕ) → LaidUpTo rest ls (open_comment inside) → IsFollowed token spelling rest → IsFollowed token spelling (rest ++ more)
followed-on token spelling [] more ls inside laid followed = absurd (none-laid ls (open_comment inside) (λ none. cc) laid)
followed-on token spelling (b ∷ rest) more ls inside laid followed = followed

-- with what ends it the bytes are laid as the same tokens
pub closed : (ls : List Lexeme) (bytes inside : List ℕ) → LaidUpTo bytes ls (open_comment inside) → LaidAs (bytes ++ ending) ls
closed [] bytes inside (gap_, is, separates, tail) =
    let own : IsSeparatorText (separator_bytes (comment inside)) = (comment inside ∷ [], (comment-text inside tail, tt), sym (append-nil (separator_bytes (comment inside)))) in
    let same : gap_ ++ separator_bytes (comment inside) ≡ bytes ++ ending = sym (append_assoc gap_ (47 ∷ 42 ∷ inside) ending) ∙ ap (λ (l : List ℕ). l ++ ending) (sym is) in
    subst IsSeparatorText same (separators-joined gap_ (separator_bytes (comment inside)) separates own)
closed (l ∷ ls) bytes inside (gap_, spelling, rest, is, separates, spells, size, followed, laid) = (
  gap_,
  spelling,
  rest ++ ending,
  ap (λ (x : List ℕ). x ++ ending) is ∙ (append_assoc gap_ (spelling ++ rest) ending ∙ ap (λ (x : List ℕ). gap_ ++ x) (append_assoc spelling rest ending)),
  separates,
  spells,
  size,
  followed-on l.token spelling rest ending ls inside laid followed,
  closed ls rest inside laid,
)

-- what ends it is no tokens by itself
unlexed : (founds : List SizedToken) → all_tokens (lex start ending) ≡ Some founds → ⊥
unlexed founds has =
    let run : lex start ending ≡ before (record { found = known (single_token single.Star); size = 1 }) (without_tokens (open_at (gap Slash))) =
    lex-give start single.Star 42 (47 ∷ []) refl
    ∙ ap (λ (a : Answer). before (record { found = known (single_token single.Star); size = 1 }) a) (lex-pass start Slash 47 [] refl ∙ lex-nil (gap Slash)) in
    let clash : (let o : Option (List SizedToken) = None in o) ≡ Some founds = sym (ap all_tokens run) ∙ has in
    cc

-- the lexer reads whole statements first, and then what stands behind them
with-last : (x : Lexeme) (lexemes : List Lexeme) → (front : List Lexeme) × (last : Lexeme) × (x ∷ lexemes ≡ front ++ last ∷ [])
with-last x [] = ([], x, refl)
with-last x (y ∷ lexemes) = let (front, last, is) = with-last y lexemes in (x ∷ front, last, ap (λ (ls : List Lexeme). x ∷ ls) is)

last-ends : (front : List Lexeme) (last : Lexeme) → EndsWithSemicolon (tokens_in (front ++ last ∷ [])) → last.token ≡ semicolon
last-ends [] last ends = ends
last-ends (y ∷ []) last ends = ends
last-ends (y ∷ z ∷ front) last ends = last-ends (z ∷ front) last ends

whole-read : (lexemes : List Lexeme) (bytes behind : List ℕ) → AreWhole bytes lexemes → (founds : List SizedToken) × (lex start (bytes ++ behind) ≡ after founds (lex start behind))
whole-read [] bytes behind whole = ([], gap-run bytes whole.laid behind)
whole-read (x ∷ lexemes) bytes behind whole =
    let (front, last, is) = with-last x lexemes in
    let ends : last.token ≡ semicolon = last-ends front last (subst (λ (ls : List Lexeme). EndsWithSemicolon (tokens_in ls)) is whole.ends) in
    let (founds, mean, reads) = front-run front last bytes behind (subst (λ (ls : List Lexeme). LaidAs bytes ls) is whole.laid) (subst IsWholeAtOnce (sym ends) tt) in
    (founds, reads)

pub not-in_remark : (bytes inside : List ℕ) (lexemes : List Lexeme) → AreWhole bytes lexemes → EndsInRemark bytes inside → ⊥
not-in_remark bytes inside lexemes whole (ls, laid) =
    let (firsts, reads) = whole-read lexemes bytes ending whole in
    let (founds, has, mean) = laid_read ls (bytes ++ ending) (closed ls bytes inside laid) in
    let (more, own, are) = all_tokens-after firsts (lex start ending) founds (ap all_tokens (sym reads) ∙ has) in
    unlexed more own

-- ---- no signpost inside

pub none-inside : (statement behind : List ℕ) (lexemes : List Lexeme) → AreWhole statement lexemes → FindsInString statement None → HasNoneInside statement behind
none-inside statement behind lexemes whole none front signpost rest is =
    let tail : List ℕ = signpost_bytes signpost ++ rest in
    let first : take (length front) statement ≡ front = ap (λ (l : List ℕ). take (length front) l) is.bytes_are ∙ take_at front tail (length front) refl in
    let further : drop (length front) statement ≡ tail = ap (λ (l : List ℕ). drop (length front) l) is.bytes_are ∙ drop_at front tail (length front) refl in
    elim is.in_text [
      | inl in_string ↦ none (length front) signpost (record {
        within = let size = ap length is.bytes_are in let sum = length-append front tail in omega (arith, size, sum);
        in_string = subst EndsInString (sym first) in_string;
        stands = subst (λ (l : List ℕ). StandsAt l (drop (length front) statement) signpost) (sym first) (subst (λ (l : List ℕ). StandsAt front l signpost) (sym further) is.stands);
      })
      | inr (nothing, (inside, more, are, begun, all)) ↦ not-in_remark statement (inside ++ more) lexemes whole all
    ]
