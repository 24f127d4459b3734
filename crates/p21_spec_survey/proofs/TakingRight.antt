-- Whole statements are taken one behind the other.
use Rattle.std.proofs.Common.{◌≡◌, ℕ, List, [], ◌∷◌, ◌++◌, refl, sym, ap, subst, ◌∙◌, append_assoc, append-nil, arith}
use Rattle.std.specs.List.{flat_map}
use Rattle.p21_spec_exchange.proofs.Semicolons.{statement-ends, statements-end, unended}
use Rattle.p21_spec_exchange.specs.Laying.{LaidAs, Lexeme, tokens_in}
use Rattle.p21_spec_exchange.specs.OpenNesting.{EndsWithSemicolon}
use Rattle.p21_spec_exchange.specs.Statement.{Statement, statement_tokens}
use Rattle.p21_spec_exchange.specs.Token.{IsFollowed, Spells, Token, semicolon}
use Rattle.p21_spec_survey.specs.Laws.{FirstStatementIsApart, RightStatementsAreTaken}
use Rattle.p21_spec_survey.specs.Survey.{BeginFile, takes, taking}

-- ---- the first statement

-- the bytes of these tokens, which end with the spelling of the last one, and those of the others
record IsSplit (bytes : List ℕ) (ended : List Token) (last : Token) (others : List Token) : Type 0 where
  front : List ℕ
  rest : List ℕ
  bytes_are : bytes ≡ front ++ rest
  firsts : List Lexeme
  front_laid : LaidAs front firsts
  firsts_are : tokens_in firsts ≡ ended ++ last ∷ []
  before : List ℕ
  spelling : List ℕ
  ends : front ≡ before ++ spelling
  spells : Spells last spelling
  more : List Lexeme
  rest_laid : LaidAs rest more
  more_are : tokens_in more ≡ others

followed-front : (token : Token) (spelling front rest : List ℕ) → IsFollowed token spelling (front ++ rest) → IsFollowed token spelling front
followed-front token spelling [] rest followed = tt
followed-front token spelling (b ∷ front) rest followed = followed

split : (lexemes : List Lexeme) (bytes : List ℕ) (ended : List Token) (last : Token) (others : List Token) → LaidAs bytes lexemes → tokens_in lexemes ≡ (ended ++ last ∷ []) ++ others → IsSplit bytes ended last others
split [] bytes [] last others laid are = absurd cc
split [] bytes (t ∷ ended) last others laid are = absurd cc
split (x ∷ lexemes) bytes [] last others (gap, spelling, rest, is, separates, spells, size, followed, laid) are =
    let first : x.token ≡ last = cc in
    let later : tokens_in lexemes ≡ others = cc in
    record {
      front = gap ++ spelling;
      rest = rest;
      bytes_are = is ∙ sym (append_assoc gap spelling rest);
      firsts = x ∷ [];
      front_laid = (gap, spelling, [], ap (λ (l : List ℕ). gap ++ l) (sym (append-nil spelling)), separates, spells, size, tt, ([], tt, refl));
      firsts_are = ap (λ (t : Token). t ∷ []) first;
      before = gap;
      spelling = spelling;
      ends = refl;
      spells = subst (λ (t : Token). Spells t spelling) first spells;
      more = lexemes;
      rest_laid = laid;
      more_are = later;
    }
split (x ∷ lexemes) bytes (t ∷ ended) last others (gap, spelling, rest, is, separates, spells, size, followed, laid) are =
    let first : x.token ≡ t = cc in
    let later : tokens_in lexemes ≡ (ended ++ last ∷ []) ++ others = cc in
    let s = split lexemes rest ended last others laid later in
    record {
      front = gap ++ (spelling ++ s.front);
      rest = s.rest;
      bytes_are =
          is ∙ (ap (λ (l : List ℕ). gap ++ (spelling ++ l)) s.bytes_are
          ∙ (ap (λ (l : List ℕ). gap ++ l) (sym (append_assoc spelling s.front s.rest)) ∙ sym (append_assoc gap (spelling ++ s.front) s.rest)));
      firsts = x ∷ s.firsts;
      front_laid = (gap, spelling, s.front, refl, separates, spells, size, followed-front x.token spelling s.front s.rest (subst (λ (l : List ℕ). IsFollowed x.token spelling l) s.bytes_are followed), s.front_laid);
      firsts_are = ap (λ (ts : List Token). x.token ∷ ts) s.firsts_are ∙ ap (λ (z : Token). z ∷ (ended ++ last ∷ [])) first;
      before = gap ++ (spelling ++ s.before);
      spelling = s.spelling;
      ends =
          ap (λ (l : List ℕ). gap ++ (spelling ++ l)) s.ends
          ∙ (ap (λ (l : List ℕ). gap ++ l) (sym (append_assoc spelling s.before s.spelling)) ∙ sym (append_assoc gap (spelling ++ s.before) s.spelling));
      spells = s.spells;
      more = s.more;
      rest_laid = s.rest_laid;
      more_are = s.more_are;
    }

pub first-apart : FirstStatementIsApart
first-apart bytes lexemes statement others whole are =
    let tokens : tokens_in lexemes ≡ (unended statement ++ semicolon ∷ []) ++ flat_map statement_tokens others = are ∙ ap (λ (ts : List Token). ts ++ flat_map statement_tokens others) (statement-ends statement) in
    let s = split lexemes bytes (unended statement) semicolon (flat_map statement_tokens others) whole.laid tokens in
    record {
      front = s.front;
      rest = s.rest;
      bytes_are = s.bytes_are;
      statement_is = record {
        laid = record { lexemes = s.firsts; tokens_are = s.firsts_are ∙ sym (statement-ends statement); laid = s.front_laid };
        front = s.before;
        ends = s.ends ∙ ap (λ (l : List ℕ). s.before ++ l) s.spells;
      };
      more = s.more;
      whole = record { laid = s.rest_laid; ends = subst EndsWithSemicolon (sym s.more_are) (statements-end others) };
      more_are = s.more_are;
    }

-- ---- all of them

-- some file begins with a front of them
begin-front : (given : List Statement) (statement : Statement) (others : List Statement) → BeginFile (given ++ statement ∷ others) → BeginFile (given ++ statement ∷ [])
begin-front given statement others (structure, schema, is_file, (later, are)) =
    (structure, schema, is_file, (others ++ later, are ∙ (append_assoc given (statement ∷ others) later ∙ sym (append_assoc given (statement ∷ []) (others ++ later)))))

no-tokens : (lexemes : List Lexeme) → tokens_in lexemes ≡ [] → lexemes ≡ []
no-tokens [] are = refl
no-tokens (x ∷ lexemes) are = absurd cc

pub right-taken : RightStatementsAreTaken
right-taken rules limits file read bytes rest lexemes [] is_read file_is whole are begins right = record {
  next = read;
  is_read = is_read;
  used = [];
  behind = bytes;
  bytes_are = refl;
  separates = subst (λ (ls : List Lexeme). LaidAs bytes ls) (no-tokens lexemes are) whole.laid;
  bytes_read = sym (append-nil read.bytes);
  kept_are = sym (append-nil read.kept);
  count_is = omega arith;
  given_are = sym (append-nil read.given);
  taken_are = sym (append-nil read.taken);
  listed_are = refl;
}
right-taken rules limits file read bytes rest lexemes (statement ∷ others) is_read file_is whole are begins right =
    let first = first-apart bytes lexemes statement others whole are in
    let here : file ≡ read.bytes ++ (first.front ++ (first.rest ++ rest)) =
    file_is ∙ ap (λ (l : List ℕ). read.bytes ++ l) (ap (λ (l : List ℕ). l ++ rest) first.bytes_are ∙ append_assoc first.front first.rest rest) in
    let one = takes read first.front (first.rest ++ rest) statement is_read here first.statement_is (begin-front read.given statement others begins) right.0 in
    let others_begin : BeginFile ((read.given ++ statement ∷ []) ++ others) = subst BeginFile (sym (append_assoc read.given (statement ∷ []) others)) begins in
    let go = right-taken rules limits file (taking read first.front statement) first.rest rest first.more others one (here ∙ sym (append_assoc read.bytes first.front (first.rest ++ rest))) first.whole first.more_are others_begin right.1 in
    record {
      next = go.next;
      is_read = go.is_read;
      used = first.front ++ go.used;
      behind = go.behind;
      bytes_are = first.bytes_are ∙ (ap (λ (l : List ℕ). first.front ++ l) go.bytes_are ∙ sym (append_assoc first.front go.used go.behind));
      separates = go.separates;
      bytes_read = go.bytes_read ∙ append_assoc read.bytes first.front go.used;
      kept_are = go.kept_are ∙ append_assoc read.kept first.front go.used;
      count_is = let count = go.count_is in omega (arith, count);
      given_are = go.given_are ∙ append_assoc read.given (statement ∷ []) others;
      taken_are = go.taken_are ∙ append_assoc read.taken (statement ∷ []) others;
      listed_are = go.listed_are;
    }
