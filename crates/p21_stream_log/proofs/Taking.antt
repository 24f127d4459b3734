-- A statement that has ended is taken.
use Rattle.std.proofs.Common.{◌≡◌, ◌≢◌, ◌+◌, ℕ, IsTrue, List, [], ◌∷◌, ◌++◌, length, length-append, refl, sym, ap, subst, ◌∙◌, append_assoc, append-nil}
use Rattle.std.proofs.lemmas.Grind.{flat_map-append}
use Rattle.std.proofs.lemmas.List.{append_cancel_left}
use Rattle.std.specs.List.{flat_map}
use Rattle.p21_spec_basics.specs.Limits.{Limits}
use Rattle.p21_spec_exchange.proofs.Semicolons.{statement-ends, statements-end, unended}
use Rattle.p21_spec_exchange.specs.Laying.{LaidAs, Lexeme, tokens_in}
use Rattle.p21_spec_exchange.specs.OpenNesting.{EndsWithSemicolon}
use Rattle.p21_spec_exchange.specs.Separator.{IsSeparatorText}
use Rattle.p21_spec_exchange.specs.Statement.{Statement, statement_tokens}
use Rattle.p21_spec_exchange.specs.Token.{Token, semicolon}
use Rattle.p21_spec_survey.specs.Rules.{Rules}
use Rattle.p21_spec_survey.proofs.TakingRight.{first-apart}
use Rattle.p21_spec_survey.proofs.WholeFronts.{whole-goes_on}
use Rattle.p21_spec_survey.specs.Landmark.{IsOpened}
use Rattle.p21_spec_survey.specs.Laws.{IsApart}
use Rattle.p21_spec_survey.specs.Survey.{AreStatement, BeginFile, IsRead, IsRight, Reading, takes, taking}
use Rattle.p21_spec_survey.specs.Whole.{AreWhole, GoesOnBy, JoinedIsLaid, further_on, stays_there}
use Rattle.p21_stream_log.proofs.Between.{between-whole, given-begin, place-live}
use Rattle.p21_stream_log.proofs.Ends.{none-behind, opened-behind}
use Rattle.p21_stream_log.specs.Log.{BeganBehind, Closes, EndsWith, Held, IsFileOf, Known, Logs, Point, TakeGives, behind_taken}
use Rattle.p21_stream_statements.specs.StatementReader as statements
use Rattle.p21_stream_statements.specs.StatementReader.{limits_of}

pub tokens-append : (ls ms : List Lexeme) → tokens_in (ls ++ ms) ≡ tokens_in ls ++ tokens_in ms
tokens-append [] ms = refl
tokens-append (l ∷ ls) ms = ap (λ (ts : List Token). l.token ∷ ts) (tokens-append ls ms)

no-lexemes : (ls : List Lexeme) → tokens_in ls ≡ [] → ls ≡ []
no-lexemes [] is = refl
no-lexemes (l ∷ ls) is = absurd cc

tokens-joined : (ls ms : List Lexeme) → EndsWithSemicolon (tokens_in ls) → EndsWithSemicolon (tokens_in ms)
    → EndsWithSemicolon (tokens_in (ls ++ ms))
tokens-joined [] ms ends ends_ = ends_
tokens-joined (l ∷ []) [] ends ends_ = ends
tokens-joined (l ∷ []) (m ∷ ms) ends ends_ = ends_
tokens-joined (l ∷ k ∷ ls) ms ends ends_ = tokens-joined (k ∷ ls) ms ends ends_

whole-joined : JoinedIsLaid → (front bytes : List ℕ) (ls ms : List Lexeme) → AreWhole front ls → AreWhole bytes ms
    → AreWhole (front ++ bytes) (ls ++ ms)
whole-joined joined front bytes ls ms whole more =
    record { laid = joined front bytes ls ms whole more.laid; ends = tokens-joined ls ms whole.ends more.ends }

none-ends : (xs : List Token) (t : Token) → xs ++ t ∷ [] ≡ [] → ⊥
none-ends [] t is = cc
none-ends (x ∷ xs) t is = cc

-- where whole statements go on by one more, its bytes are those behind them
bytes-more : (front bytes all : List ℕ) (statement : Statement) (more : List Token) → more ≡ statement_tokens statement
    → all ≡ front ++ bytes → GoesOnBy front all more → (ls : List Lexeme) × AreWhole bytes ls × (tokens_in ls ≡ more)
bytes-more front bytes all statement more are is (further_on own ls same whole tokens) =
    (ls, subst (λ (l : List ℕ). AreWhole l ls) (append_cancel_left front own bytes (sym same ∙ is)) whole, tokens)
bytes-more front bytes all statement more are is (stays_there gap same separates none) =
    absurd (none-ends (unended statement) semicolon (sym (statement-ends statement) ∙ (sym are ∙ none)))

-- the bytes of the buffer are those of the statement that has ended
pub record HasEnded (buffer : List ℕ) (statement : Statement) : Type 0 where
  pub statement_is : AreStatement buffer statement
  pub more : List Lexeme
  pub whole : AreWhole buffer more
  pub tokens_are : tokens_in more ≡ statement_tokens statement

module _ (s : Rules) (limits : Limits) (known : Known) (held : Held) (point : Point) (statement : Statement)
    (logs : Logs s limits known held point) (ended : point.ended ≡ statement ∷ []) where
  given : logs.history.given ≡ point.read.given ++ statement ∷ []
  given = logs.given_are ∙ ap (λ (sts : List Statement). point.read.given ++ sts) ended

  ended-whole : (more : List Lexeme) × AreWhole held.buffer more × (tokens_in more ≡ flat_map statement_tokens (statement ∷ []))
  ended-whole =
      let some : point.ended ≢ [] = λ none. (let clash : statement ∷ [] ≡ [] = sym ended ∙ none in cc) in
      let (all, whole, are) = between-whole held.reader logs.history (logs.between some) logs.live in
      let tokens : List Token = flat_map statement_tokens (statement ∷ []) in
      let sum : tokens_in all ≡ tokens_in logs.lexemes ++ tokens =
      are
      ∙ (ap (λ (sts : List Statement). flat_map statement_tokens sts) given
      ∙ (flat_map-append statement_tokens point.read.given (statement ∷ [])
      ∙ ap (λ (ts : List Token). ts ++ tokens) (sym logs.tokens_are))) in
      let goes = whole-goes_on logs.gapped logs.history.taken held.buffer [] logs.lexemes all tokens logs.gapped_whole whole
      (sym logs.taken_are ∙ sym (append-nil logs.history.taken)) sum (statements-end (statement ∷ [])) in
      bytes-more logs.gapped held.buffer logs.history.taken statement tokens (append-nil (statement_tokens statement)) logs.taken_are goes

  -- they are its own, and separators behind them
  pub ended-apart : IsApart held.buffer statement []
  ended-apart = let (more, whole, are) = ended-whole in first-apart held.buffer more statement [] whole are

  pub ended-separates : IsSeparatorText ended-apart.rest
  ended-separates = let apart = ended-apart in subst (λ (ls : List Lexeme). LaidAs apart.rest ls) (no-lexemes apart.more apart.more_are)
      apart.whole.laid

  pub has-ended : EndsWith 59 held.buffer → HasEnded held.buffer statement
  has-ended last =
      let (more, here, more_are) = ended-whole in
      let apart = ended-apart in
      let none = none-behind apart.front apart.rest ended-separates (subst (EndsWith 59) apart.bytes_are last) in
      let same : held.buffer ≡ apart.front = apart.bytes_are ∙ (ap (λ (l : List ℕ). apart.front ++ l) none ∙ append-nil apart.front) in
      record {
        statement_is = subst (λ (l : List ℕ). AreStatement l statement) (sym same) apart.statement_is;
        more = more;
        whole = here;
        tokens_are = more_are ∙ append-nil (statement_tokens statement);
      }

  -- where it stands in the files
  pub next-is : (file : List ℕ) → IsFileOf known file → (rest : List ℕ) × (file ≡ point.read.bytes ++ (held.buffer ++ rest))
  next-is file of = let (rest, is) = logs.file_is file of in (point.ahead ++ rest, is)

  pub begins : BeginFile (point.read.given ++ statement ∷ [])
  begins = subst BeginFile given (given-begin held.reader logs.history logs.live)

  -- what is held behind it, with no statement open
  began-here : (next : Reading) → next.given ≡ point.read.given ++ statement ∷ [] → (new : Held) → Closes held new
      → BeganBehind new.reader (logs.gapped ++ held.buffer) next.given
  began-here next given_is new closes = record {
    earlier = held.reader;
    between_statements = logs.between (λ none. (let clash : statement ∷ [] ≡ [] = sym ended ∙ none in cc));
    same_limits = ap limits_of (sym closes.reader);
    seen = logs.history.seen;
    was_live = subst (λ (l : List ℕ). statements.IsLive held.reader (record { taken = l; seen = logs.history.seen; given = next.given }))
        logs.taken_are
        (subst (λ (sts : List Statement). statements.IsLive held.reader
        (record { taken = logs.history.taken; seen = logs.history.seen; given = sts })) (given ∙ sym given_is) logs.live);
  }

  -- what is held behind it stands for each reading that has these bytes and this statement more
  module _ (joined : JoinedIsLaid) (last : EndsWith 59 held.buffer) (next : Reading)
      (bytes_is : next.bytes ≡ point.read.bytes ++ held.buffer) (kept_is : next.kept ≡ point.read.kept ++ held.buffer)
      (given_is : next.given ≡ point.read.given ++ statement ∷ [])
      (is_read : (file : List ℕ) → IsFileOf known file → IsRead s limits file next) (new : Held) (closes : Closes held new) where
    size-is : length (logs.gapped ++ held.buffer) ≡ length next.bytes
    size-is =
        length-append logs.gapped held.buffer
        ∙ (ap (λ (n : ℕ). n + length held.buffer) logs.size ∙ (sym (length-append point.read.bytes held.buffer) ∙ ap length (sym bytes_is)))

    pub closed-logs : Logs s limits known new (record { read = next; ended = []; seen = point.seen; ahead = point.ahead })
    closed-logs =
        let own = has-ended last in
        record {
          is_read = is_read;
          file_is = λ file of.
              let (rest, is) = logs.file_is file of in (
                rest,
                is
                    ∙ (sym (append_assoc point.read.bytes held.buffer (point.ahead ++ rest))
                    ∙ (ap (λ (l : List ℕ). l ++ (point.ahead ++ rest)) (sym bytes_is)
                    ∙ ap (λ (l : List ℕ). next.bytes ++ (l ++ (point.ahead ++ rest))) (sym closes.buffer))),
              );
          start_is = closes.start ∙ (place-live held.reader logs.history logs.live ∙ (ap length logs.taken_are ∙ size-is));
          opens = (
            λ _. subst IsOpened (sym bytes_is) (opened-behind point.read.bytes held.buffer last),
            λ _. subst IsTrue
                (sym closes.opened) refl,
          );
          history = logs.history;
          live = subst (λ (h : statements.Held). statements.IsLive h logs.history) (sym closes.reader) logs.live;
          limits_are = ap limits_of closes.reader ∙ logs.limits_are;
          seen_is = logs.seen_is;
          given_are = given ∙ (sym given_is ∙ sym (append-nil next.given));
          between = λ some. absurd (some refl);
          gapped = logs.gapped ++ held.buffer;
          taken_are = logs.taken_are ∙ (sym (append-nil (logs.gapped ++ held.buffer))
              ∙ ap (λ (l : List ℕ). (logs.gapped ++ held.buffer) ++ l) (sym closes.buffer));
          size = size-is;
          lexemes = logs.lexemes ++ own.more;
          gapped_whole = whole-joined joined logs.gapped held.buffer logs.lexemes own.more logs.gapped_whole own.whole;
          kept_whole = subst (λ (l : List ℕ). AreWhole l (logs.lexemes ++ own.more)) (sym kept_is)
              (whole-joined joined point.read.kept held.buffer logs.lexemes own.more logs.kept_whole own.whole);
          tokens_are = tokens-append logs.lexemes own.more
              ∙ (ap (λ (ts : List Token). ts ++ tokens_in own.more) logs.tokens_are
              ∙ (ap (λ (ts : List Token). flat_map statement_tokens point.read.given ++ ts)
              (own.tokens_are ∙ sym (append-nil (statement_tokens statement)))
              ∙ (sym (flat_map-append statement_tokens point.read.given (statement ∷ []))
              ∙ ap (λ (sts : List Statement). flat_map statement_tokens sts) (sym given_is))));
          began = began-here next given_is new closes;
        }

  -- it is right, and taken
  pub taken-logs : JoinedIsLaid → EndsWith 59 held.buffer → IsRight s point.read.given statement → (new : Held) → Closes held new
      → Logs s limits known new (behind_taken point held.buffer statement)
  taken-logs joined last right new closes =
      let read : (file : List ℕ) → IsFileOf known file → IsRead s limits file (taking point.read held.buffer statement) = λ file of.
      let (rest, is) = next-is file of in takes point.read held.buffer rest statement (logs.is_read file of) is
      (has-ended last).statement_is begins right in
      closed-logs joined last (taking point.read held.buffer statement) refl refl refl read new closes

pub take-gives : JoinedIsLaid → (old new : Held) → Closes old new → TakeGives old new
take-gives joined old new closes s limits known point statement logs ended last right = (
  (has-ended s limits known old point statement logs ended last).statement_is,
  taken-logs s limits known old point statement logs ended joined last right new closes,
)
