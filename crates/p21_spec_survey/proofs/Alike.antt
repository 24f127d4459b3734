-- Separators behind whole statements change no token: what stands behind is laid by itself.
use Rattle.std.proofs.Common.{◌≡◌, inl, inr, ℕ, List, [], ◌∷◌, ◌++◌, length, refl, sym, ap, subst, ◌∙◌, append_assoc, append-nil, Option, Some, None, arith}
use Rattle.std.proofs.lemmas.Grind.{flat_map-append}
use Rattle.std.specs.List.{flat_map}
use Rattle.p21_spec_basics.proofs.Members.{Each-append}
use Rattle.p21_spec_basics.specs.Limits.{Limits}
use Rattle.p21_spec_exchange.proofs.FirstBytes.{spelling_begins}
use Rattle.p21_spec_exchange.specs.Grammar.{InGrammar}
use Rattle.p21_spec_exchange.specs.Laying.{LaidAs, Lexeme, tokens_in}
use Rattle.p21_spec_exchange.specs.OpenNesting.{EndsWithSemicolon}
use Rattle.p21_spec_exchange.specs.Pending.{nothing, open_comment, slash, unfinished}
use Rattle.p21_spec_exchange.specs.Separator.{IsSeparator, IsSeparatorText, separator_bytes}
use Rattle.p21_spec_exchange.specs.Structure.{Structure}
use Rattle.p21_spec_exchange.specs.Token.{IsFollowed, IsWholeAtOnce, MayFollow, Token, semicolon}
use Rattle.p21_spec_survey.specs.Whole.{AreWhole, BeginsNoneAlike, BeginsNoneWithinAlike, BehindIsLaid, GapHoldsTheSame, GapIsNoToken, HoldTheSame, JoinedIsLaid, LaidAlike, NoFileAlike, NothingHoldsTheSame, StatementsHoldTheSame}
use Rattle.p21_tokens_automaton.proofs.Complete.{all_tokens-after}
use Rattle.p21_tokens_automaton.proofs.Fits.{ModeFits}
use Rattle.p21_tokens_automaton.proofs.Gaps.{gap, gap-run}
use Rattle.p21_tokens_automaton.proofs.Once.{means-once}
use Rattle.p21_tokens_automaton.proofs.Prefixes.{ended_token-laid, front-run}
use Rattle.p21_tokens_automaton.proofs.Sound.{UpTo, read}
use Rattle.p21_tokens_automaton.proofs.Theorems.{laid-whole, laid_read, read_laid}
use Rattle.p21_tokens_automaton.specs.Meaning.{MeanAll}
use Rattle.p21_tokens_automaton.specs.Reading.{Ending, FoundToken, SizedToken, State, after, all_tokens, at_end, ended_token, lex, open_at, start, stopped, tokens_at_end, with_last_tokens}
use Rattle.p21_tokens_automaton.specs.declared.mode.Mode.{Mode}
use Rattle.p21_tokens_automaton.specs.declared.mode.Mode.TheVariants.{Between, Comment, Slash, Star}

-- ---- what is found in all bytes is laid in them

-- the lexemes of what is found in two parts
record InParts (founds more : List SizedToken) (lexemes : List Lexeme) : Type 0 where
  front : List Lexeme
  behind : List Lexeme
  lexemes_are : lexemes ≡ front ++ behind
  mean_front : MeanAll founds front
  mean_behind : MeanAll more behind

in-parts : (founds more : List SizedToken) (lexemes : List Lexeme) → MeanAll (founds ++ more) lexemes → InParts founds more lexemes
in-parts [] more lexemes mean = record { front = []; behind = lexemes; lexemes_are = refl; mean_front = tt; mean_behind = mean }
in-parts (f ∷ founds) more [] mean = absurd mean
in-parts (f ∷ founds) more (l ∷ lexemes) mean =
    let rest = in-parts founds more lexemes mean.2 in
    record {
      front = l ∷ rest.front;
      behind = rest.behind;
      lexemes_are = ap (λ (x : List Lexeme). l ∷ x) rest.lexemes_are;
      mean_front = (mean.0, mean.1, rest.mean_front);
      mean_behind = rest.mean_behind;
    }

mode-of : (e : State) (k : Mode) → e ≡ gap k → e.mode ≡ k
mode-of e k same = ap (λ (s : State). s.mode) same

-- between tokens nothing is open
between-laid : (bytes : List ℕ) (lexemes : List Lexeme) (e : State) → UpTo bytes lexemes e → e.mode ≡ Between → LaidAs bytes lexemes
between-laid bytes lexemes e (nothing, laid, is) mode = laid-whole bytes lexemes laid
between-laid bytes lexemes e (slash, laid, is) mode = let clash : Between ≡ Slash = sym mode ∙ mode-of e Slash is in cc
between-laid bytes lexemes e (open_comment inside, laid, is) mode = elim is.0 [
  | inl same ↦ (let clash : Between ≡ Comment = sym mode ∙ mode-of e Comment same in cc)
  | inr same ↦ (let clash : Between ≡ Star = sym mode ∙ mode-of e Star same in cc)
]
between-laid bytes lexemes e (unfinished inside, laid, is) mode = absurd (subst (λ (k : Mode). ModeFits k e.pending_bytes e.characters inside) mode is.0)

-- tokens that are found in all of the bytes are laid in them
module _ (bytes : List ℕ) (founds : List SizedToken) (lexemes : List Lexeme) (mean : MeanAll founds lexemes) (given : List SizedToken) (e : State)
    (is : lex start bytes ≡ read given e) where
  open-laid : e.mode ≡ Between → Some (given ++ []) ≡ Some founds → LaidAs bytes lexemes
  open-laid mode all =
      let same : founds ≡ given = (let h : given ++ [] ≡ founds = cc in sym h ∙ append-nil given) in
      between-laid bytes lexemes e (read_laid bytes given lexemes e is (subst (λ (x : List SizedToken). MeanAll x lexemes) same mean)) mode

  by-mode : (k : Mode) → e.mode ≡ k → with_last_tokens given (tokens_at_end None k e.size) ≡ Some founds → LaidAs bytes lexemes
  by-mode Between mode all = open-laid mode all
  by-mode other mode all = cc

  ended-laid : (f : FoundToken) → ended_token e ≡ Some f → founds ≡ given ++ record { found = f; size = e.size } ∷ [] → LaidAs bytes lexemes
  ended-laid f ended same =
      at (in-parts given (record { found = f; size = e.size } ∷ []) lexemes (subst (λ (x : List SizedToken). MeanAll x lexemes) same mean))
    where
      at : InParts given (record { found = f; size = e.size } ∷ []) lexemes → LaidAs bytes lexemes
      at parts = subst (λ (x : List Lexeme). LaidAs bytes x) (sym parts.lexemes_are) (one parts.behind parts.mean_behind)
        where
          one : (behind : List Lexeme) → MeanAll (record { found = f; size = e.size } ∷ []) behind → LaidAs bytes (parts.front ++ behind)
          one [] m = absurd m
          one (l ∷ []) m = ended_token-laid bytes parts.front e f l (read_laid bytes given parts.front e is parts.mean_front) ended m.0 m.1
          one (l ∷ k ∷ behind) m = absurd m.2

  by-token : (o : Option FoundToken) → ended_token e ≡ o → with_last_tokens given (tokens_at_end o e.mode e.size) ≡ Some founds → LaidAs bytes lexemes
  by-token None ended all = by-mode e.mode refl all
  by-token (Some f) ended all = let same : given ++ record { found = f; size = e.size } ∷ [] ≡ founds = cc in ended-laid f ended (sym same)

found-laid : (bytes : List ℕ) (founds : List SizedToken) (lexemes : List Lexeme) → all_tokens (lex start bytes) ≡ Some founds → MeanAll founds lexemes → LaidAs bytes lexemes
found-laid bytes founds lexemes all mean = by (lex start bytes).ending refl
  where
    by : (ending : Ending) → (lex start bytes).ending ≡ ending → LaidAs bytes lexemes
    by (stopped wrong) is =
        let clash : with_last_tokens (lex start bytes).given (at_end (stopped wrong)) ≡ Some founds =
        ap (λ (y : Ending). with_last_tokens (lex start bytes).given (at_end y)) (sym is) ∙ all in
        cc
    by (open_at e) is =
        by-token bytes founds lexemes mean (lex start bytes).given e (ap (λ (y : Ending). record { given = (lex start bytes).given; ending = y }) is) (ended_token e) refl
        (ap (λ (y : Ending). with_last_tokens (lex start bytes).given (at_end y)) (sym is) ∙ all)

-- ---- behind whole statements

-- the tokens of whole statements are read first, and then those behind them
front-read : (lexemes : List Lexeme) (front behind : List ℕ) → AreWhole front lexemes → (founds : List SizedToken) × MeanAll founds lexemes × (lex start (front ++ behind) ≡ after founds (lex start behind))
front-read [] front behind whole = ([], tt, gap-run front whole.laid behind)
front-read (x ∷ lexemes) front behind whole = by (with-last x lexemes)
  where
    with-last : (x : Lexeme) (lexemes : List Lexeme) → (before : List Lexeme) × (last : Lexeme) × (x ∷ lexemes ≡ before ++ last ∷ [])
    with-last x [] = ([], x, refl)
    with-last x (y ∷ lexemes) = let (before, last, is) = with-last y lexemes in (x ∷ before, last, ap (λ (ls : List Lexeme). x ∷ ls) is)

    last-ends : (before : List Lexeme) (last : Lexeme) → EndsWithSemicolon (tokens_in (before ++ last ∷ [])) → last.token ≡ semicolon
    last-ends [] last ends = ends
    last-ends (y ∷ []) last ends = ends
    last-ends (y ∷ z ∷ before) last ends = last-ends (z ∷ before) last ends

    by : (before : List Lexeme) × (last : Lexeme) × (x ∷ lexemes ≡ before ++ last ∷ [])
        → (founds : List SizedToken) × MeanAll founds (x ∷ lexemes) × (lex start (front ++ behind) ≡ after founds (lex start behind))
    by (before, last, is) =
        let ends : last.token ≡ semicolon = last-ends before last (subst (λ (ls : List Lexeme). EndsWithSemicolon (tokens_in ls)) is whole.ends) in
        let (founds, mean, reads) = front-run before last front behind (subst (λ (ls : List Lexeme). LaidAs front ls) is whole.laid) (subst IsWholeAtOnce (sym ends) tt) in
        (founds, subst (λ (ls : List Lexeme). MeanAll founds ls) (sym is) mean, reads)

-- what is found has one token each, and the size
same-lexemes : (founds : List SizedToken) (ls ms : List Lexeme) → MeanAll founds ls → MeanAll founds ms → ls ≡ ms
same-lexemes [] [] [] mean mean_ = refl
same-lexemes [] [] (m ∷ ms) mean mean_ = absurd mean_
same-lexemes [] (l ∷ ls) ms mean mean_ = absurd mean
same-lexemes (f ∷ founds) [] ms mean mean_ = absurd mean
same-lexemes (f ∷ founds) (l ∷ ls) [] mean mean_ = absurd mean_
same-lexemes (f ∷ founds) (l ∷ ls) (m ∷ ms) mean mean_ =
    ap (λ (t : Token). record { token = t; size = l.size } ∷ ls) (means-once f.found l.token m.token mean.0 mean_.0)
    ∙ (ap (λ (n : ℕ). record { token = m.token; size = n } ∷ ls) (mean.1 ∙ sym mean_.1)
    ∙ ap (λ (zs : List Lexeme). m ∷ zs) (same-lexemes founds ls ms mean.2 mean_.2))

pub behind-laid : BehindIsLaid
behind-laid front behind lexemes all whole laid =
    let (founds, all_are, mean) = laid_read all (front ++ behind) laid in
    let (firsts, mean_front, reads) = front-read lexemes front behind whole in
    let (more, behind_are, founds_are) = all_tokens-after firsts (lex start behind) founds (ap all_tokens (sym reads) ∙ all_are) in
    let parts = in-parts firsts more all (subst (λ (x : List SizedToken). MeanAll x all) founds_are mean) in (
      parts.behind,
      parts.lexemes_are ∙ ap (λ (ls : List Lexeme). ls ++ parts.behind) (same-lexemes firsts parts.front lexemes parts.mean_front mean_front),
      found-laid behind more parts.behind behind_are parts.mean_behind,
    )

-- ---- what is laid behind them

separators-joined : (first other : List ℕ) → IsSeparatorText first → IsSeparatorText other → IsSeparatorText (first ++ other)
separators-joined first other (us, are, is) (vs, are_, is_) = (
  us ++ vs,
  Each-append IsSeparator us vs are are_,
  ap (λ (x : List ℕ). x ++ other) is ∙ (ap (λ (x : List ℕ). flat_map separator_bytes us ++ x) is_ ∙ sym (flat_map-append separator_bytes us vs)),
)

gap-before : (first behind : List ℕ) (lexemes : List Lexeme) → IsSeparatorText first → LaidAs behind lexemes → LaidAs (first ++ behind) lexemes
gap-before first behind [] separates laid = separators-joined first behind separates laid
gap-before first behind (x ∷ lexemes) separates (own, spelling, rest, is, separates_, spells, size, followed, laid) = (
  first ++ own,
  spelling,
  rest,
  ap (λ (bs : List ℕ). first ++ bs) is ∙ sym (append_assoc first own (spelling ++ rest)),
  separators-joined first own separates separates_,
  spells,
  size,
  followed,
  laid,
)

nothing-laid : (x : Lexeme) (lexemes : List Lexeme) → LaidAs [] (x ∷ lexemes) → ⊥
nothing-laid x lexemes ([], [], rest, is, separates, spells, size, followed, laid) = spelling_begins x.token [] spells
nothing-laid x lexemes ([], b ∷ spelling, rest, is, separates, spells, size, followed, laid) = cc
nothing-laid x lexemes (b ∷ first, spelling, rest, is, separates, spells, size, followed, laid) = cc

followed-on : (x : Lexeme) (spelling rest behind : List ℕ) (y : Lexeme) (lexemes : List Lexeme) → LaidAs rest (y ∷ lexemes) → IsFollowed x.token spelling rest → IsFollowed x.token spelling (rest ++ behind)
followed-on x spelling [] behind y lexemes laid followed = absurd (nothing-laid y lexemes laid)
followed-on x spelling (b ∷ rest) behind y lexemes laid followed = followed

behind-semicolon : (token : Token) (spelling behind : List ℕ) → token ≡ semicolon → IsFollowed token spelling behind
behind-semicolon token spelling [] is = tt
behind-semicolon token spelling (b ∷ behind) is = subst (λ (t : Token). MayFollow t spelling b) (sym is) tt

joined : (front behind : List ℕ) (lexemes more : List Lexeme) → LaidAs front lexemes → EndsWithSemicolon (tokens_in lexemes) → LaidAs behind more → LaidAs (front ++ behind) (lexemes ++ more)
joined front behind [] more laid ends is = gap-before front behind more laid is
joined front behind (x ∷ []) more (first, spelling, rest, bytes, separates, spells, size, followed, laid) ends is = (
  first,
  spelling,
  rest ++ behind,
  ap (λ (bs : List ℕ). bs ++ behind) bytes ∙ (append_assoc first (spelling ++ rest) behind ∙ ap (λ (bs : List ℕ). first ++ bs) (append_assoc spelling rest behind)),
  separates,
  spells,
  size,
  behind-semicolon x.token spelling (rest ++ behind) ends,
  joined rest behind [] more laid tt is,
)
joined front behind (x ∷ y ∷ lexemes) more (first, spelling, rest, bytes, separates, spells, size, followed, laid) ends is = (
  first,
  spelling,
  rest ++ behind,
  ap (λ (bs : List ℕ). bs ++ behind) bytes ∙ (append_assoc first (spelling ++ rest) behind ∙ ap (λ (bs : List ℕ). first ++ bs) (append_assoc spelling rest behind)),
  separates,
  spells,
  size,
  followed-on x spelling rest behind y lexemes laid followed,
  joined rest behind (y ∷ lexemes) more laid ends is,
)

pub joined-laid : JoinedIsLaid
joined-laid front behind lexemes more whole is = joined front behind lexemes more whole.laid whole.ends is

pub gap-no_token : GapIsNoToken
gap-no_token front behind lexemes whole separates =
    let P : List Lexeme → Type 0 = λ ls. LaidAs (front ++ behind) ls in
    record { laid = subst P (append-nil lexemes) (joined-laid front behind lexemes [] whole separates); ends = whole.ends }

-- ---- two byte lists that hold the same

pub laid-alike : LaidAlike
laid-alike front other behind all (lexemes, whole, whole_) laid =
    let (more, all_are, behind_are) = behind-laid front behind lexemes all whole laid in
    subst (λ (ls : List Lexeme). LaidAs (other ++ behind) ls) (sym all_are) (joined-laid other behind lexemes more whole_ behind_are)

turned : (front other : List ℕ) → HoldTheSame front other → HoldTheSame other front
turned front other (lexemes, whole, whole_) = (lexemes, whole_, whole)

grammar-alike : (front other behind : List ℕ) (structure : Structure) (schema : List ℕ) → HoldTheSame front other → InGrammar (other ++ behind) structure schema → InGrammar (front ++ behind) structure schema
grammar-alike front other behind structure schema same is = record {
  laid = record { lexemes = is.laid.lexemes; tokens_are = is.laid.tokens_are; laid = laid-alike other front behind is.laid.lexemes (turned front other same) is.laid.laid };
  is_file = is.is_file;
}

pub no_file-alike : NoFileAlike
no_file-alike front other behind same none structure schema is = none structure schema (grammar-alike front other behind structure schema same is)

pub begins_none-alike : BeginsNoneAlike
begins_none-alike front other behind same none more are structure schema is =
    let P : List ℕ → Type 0 = λ bs. InGrammar bs structure schema in
    none more are structure schema
    (subst P (sym (append_assoc front behind more)) (grammar-alike front other (behind ++ more) structure schema same (subst P (append_assoc other behind more) is)))

-- with a limit of files that both keep
pub begins_none_within-alike : BeginsNoneWithinAlike
begins_none_within-alike most front other behind same none limits most_is more are structure schema is =
    let P : List ℕ → Type 0 = λ bs. InGrammar bs structure schema in
    let L : List ℕ → Type 0 = λ bs. LaidAs bs is.in_grammar.laid.lexemes in
    let wide : Limits = record limits { file_source = length ((front ++ behind) ++ more) } in
    let laid : LaidAs ((front ++ behind) ++ more) is.in_grammar.laid.lexemes =
    subst L (sym (append_assoc front behind more)) (laid-alike other front (behind ++ more) is.in_grammar.laid.lexemes (turned front other same) (subst L (append_assoc other behind more) is.in_grammar.laid.laid)) in
    none wide most_is more are structure schema (record {
      in_grammar = record { laid = record { lexemes = is.in_grammar.laid.lexemes; tokens_are = is.in_grammar.laid.tokens_are; laid = laid }; is_file = is.in_grammar.is_file };
      file_within = omega arith;
      statements_within = is.statements_within;
    })

pub nothing-same : NothingHoldsTheSame
nothing-same = ([], record { laid = ([], tt, refl); ends = tt }, record { laid = ([], tt, refl); ends = tt })

tokens-joined : (ls ms : List Lexeme) → EndsWithSemicolon (tokens_in ls) → EndsWithSemicolon (tokens_in ms) → EndsWithSemicolon (tokens_in (ls ++ ms))
tokens-joined [] ms ends ends_ = ends_
tokens-joined (l ∷ []) [] ends ends_ = ends
tokens-joined (l ∷ []) (m ∷ ms) ends ends_ = ends_
tokens-joined (l ∷ k ∷ ls) ms ends ends_ = tokens-joined (k ∷ ls) ms ends ends_

pub whole-joined : (front bytes : List ℕ) (ls ms : List Lexeme) → AreWhole front ls → AreWhole bytes ms → AreWhole (front ++ bytes) (ls ++ ms)
whole-joined front bytes ls ms whole more = record { laid = joined-laid front bytes ls ms whole more.laid; ends = tokens-joined ls ms whole.ends more.ends }

pub statements-same : StatementsHoldTheSame
statements-same front other bytes more (lexemes, whole, whole_) own =
    (lexemes ++ more, whole-joined front bytes lexemes more whole own, whole-joined other bytes lexemes more whole_ own)

pub gap-same : GapHoldsTheSame
gap-same front other behind (lexemes, whole, whole_) separates = (lexemes, gap-no_token front behind lexemes whole separates, whole_)
