-- Where the open statement of a reader began: what is held there stands for the bytes up to it, which are whole statements.
use Rattle.std.proofs.Common.{◌≡◌, ◌≤◌, ◌+◌, ℕ, List, [], ◌∷◌, ◌++◌, length, length-append, None, inl, inr, refl, sym, ap, subst, ◌∙◌, append_assoc, arith}
use Rattle.std.proofs.lemmas.List.{append-nil}
use Rattle.std.specs.List.{flat_map, AllByRecursion as Each}
use Rattle.p21_grammar.specs.Held as grammar_held
use Rattle.p21_grammar.specs.Histories as grammar
use Rattle.p21_grammar.specs.Histories.{GrammarHistory}
use Rattle.p21_grammar.specs.Reopening.{between_statements}
use Rattle.p21_spec_basics.specs.History.{empty, extended, seen_behind}
use Rattle.p21_spec_exchange.specs.Laying.{AreStatementsWithin, Laid, LaidAs, Lexeme, count_behind, tokens_in}
use Rattle.p21_spec_exchange.specs.OpenNesting.{EndsWithSemicolon, IsDepth, IsNoSemicolon}
use Rattle.p21_spec_exchange.specs.Pending.{LaidUpTo, Tail}
use Rattle.p21_spec_exchange.specs.Statement.{Statement, statement_tokens}
use Rattle.p21_spec_exchange.specs.Token.{IsFollowed, Token}
use Rattle.p21_spec_laws.proofs.TokenPrefixes.{statements-ended}
use Rattle.p21_stream_statements.proofs.OpenTails.{open-tail}
use Rattle.p21_stream_statements.specs.Laws.{BeginsBehindStatements}
use Rattle.p21_stream_statements.specs.StatementReader.{Held, IsLive, StatementHistory}
use Rattle.p21_tokens.proofs.Extending.{stands-new}
use Rattle.p21_tokens.proofs.Following.{live-laid}
use Rattle.p21_tokens.proofs.Passing.{answers-passed}
use Rattle.p21_tokens.specs.Held as tokens_held
use Rattle.p21_tokens.specs.Held.{file_limit_of, record_limit_of, state_of}
use Rattle.p21_tokens.specs.Histories as tokens
use Rattle.p21_tokens.specs.Histories.{TokenHistory}
use Rattle.p21_tokens.specs.Passing.{passing_call}
use Rattle.p21_tokens_automaton.proofs.Sound.{TailIs}
use Rattle.p21_tokens_automaton.proofs.Theorems.{laid-up-to, tail-is}
use Rattle.p21_tokens_automaton.specs.declared.mode.Mode.TheVariants.{Between}

-- ---- whole statements at the front of bytes, and what stands behind them

record IsSplit (bytes : List ℕ) (lexemes : List Lexeme) (tail : Tail) (ended opened : List Token) : Type 0 where
  front : List ℕ
  own : List ℕ
  bytes_are : bytes ≡ front ++ own
  firsts : List Lexeme
  others : List Lexeme
  lexemes_are : lexemes ≡ firsts ++ others
  front_laid : LaidAs front firsts
  ended_are : tokens_in firsts ≡ ended
  own_laid : LaidUpTo own others tail
  opened_are : tokens_in others ≡ opened

followed-front : (token : Token) (spelling front own : List ℕ) → IsFollowed token spelling (front ++ own) → IsFollowed token spelling front
followed-front token spelling [] own followed = tt
followed-front token spelling (b ∷ front) own followed = followed

split : (lexemes : List Lexeme) (tail : Tail) (bytes : List ℕ) (ended opened : List Token) → LaidUpTo bytes lexemes tail
    → tokens_in lexemes ≡ ended ++ opened → IsSplit bytes lexemes tail ended opened
split lexemes tail bytes [] opened laid are =
    record {
      front = [];
      own = bytes;
      bytes_are = refl;
      firsts = [];
      others = lexemes;
      lexemes_are = refl;
      front_laid =
          ([], tt, refl);
      ended_are = refl;
      own_laid = laid;
      opened_are = are;
    }
split [] tail bytes (t ∷ ended) opened laid are = absurd cc
split (x ∷ lexemes) tail bytes (t ∷ ended) opened (gap, spelling, rest, is, separates, spells, size, followed, laid) are =
    let first : x.token ≡ t = cc in
    let later : tokens_in lexemes ≡ ended ++ opened = cc in
    let s = split lexemes tail rest ended opened laid later in
    record {
      front = gap ++ (spelling ++ s.front);
      own = s.own;
      bytes_are =
          is ∙ (ap (λ (l : List ℕ). gap ++ (spelling ++ l)) s.bytes_are
          ∙ (ap (λ (l : List ℕ). gap ++ l) (sym (append_assoc spelling s.front s.own))
          ∙ sym (append_assoc gap (spelling ++ s.front) s.own)));
      firsts = x ∷ s.firsts;
      others = s.others;
      lexemes_are = ap (λ (ls : List Lexeme). x ∷ ls) s.lexemes_are;
      front_laid = (
        gap,
        spelling,
        s.front,
        refl,
        separates,
        spells,
        size,
        followed-front x.token spelling s.front s.own
            (subst (λ (l : List ℕ). IsFollowed x.token spelling l) s.bytes_are followed),
        s.front_laid,
      );
      ended_are = ap (λ (ts : List Token). x.token ∷ ts) s.ended_are ∙ ap (λ (z : Token). z ∷ ended) first;
      own_laid = s.own_laid;
      opened_are = s.opened_are;
    }

within-front : (limit count : ℕ) (firsts others : List Lexeme) → AreStatementsWithin limit count (firsts ++ others)
    → AreStatementsWithin limit count firsts
within-front limit count [] others within = tt
within-front limit count (x ∷ firsts) others within = (within.0, within-front limit (count_behind count x) firsts others within.1)

-- ---- what the lexer says of the bytes taken

record IsLaidWithin (held : tokens_held.Held) (history : TokenHistory) : Type 0 where
  lexemes : List Lexeme
  tail : Tail
  laid : LaidUpTo history.taken lexemes tail
  tail_is : TailIs (state_of held) tail
  given_are : tokens_in lexemes ≡ history.given
  statements_within : AreStatementsWithin (record_limit_of held) 0 lexemes
  file_within : length history.taken ≤ file_limit_of held

pub lexer-live : (held : tokens_held.Held) (history : TokenHistory) → tokens.Stands held history → history.refusal ≡ None
    → tokens.IsLive held history
unfolding tokens.Stands
lexer-live held history stands alive = stands.1 alive

laid-within : (held : Held) (reading : StatementHistory) (live : IsLive held reading) → IsLaidWithin held.lexer live.history
laid-within held reading live =
    let own = lexer-live held.lexer live.history live.lexer live.lexer_open in
    let (tail, laid, tail_is) = live-laid held.lexer live.history own in
    record {
      lexemes = own.lexemes;
      tail = tail;
      laid = laid-up-to live.history.taken own.lexemes tail laid (tail-is (state_of held.lexer) tail tail_is);
      tail_is = tail_is;
      given_are = own.given_are;
      statements_within = own.statements_within;
      file_within = elim live.answered [
        | inl none ↦ subst (λ (h : TokenHistory). length h.taken ≤ file_limit_of held.lexer) (sym none)
            (omega arith)
        | inr answers ↦ answers.file_within
      ];
    }

-- ---- what is held there

-- a lexer under the same limits that has taken nothing, and one that has taken so many bytes and rests
abbrev fresh : tokens_held.Held → tokens_held.Held
fresh held = record {
  mode = Between;
  pending_bytes = [];
  characters = [];
  size = 0;
  statement = 0;
  file = 0;
  statement_limit =
      held.statement_limit;
  file_limit = held.file_limit;
  refused = None;
}

abbrev resting : tokens_held.Held → ℕ → tokens_held.Held
resting held count = record (fresh held) { file = 0 + count }

lexer-stands : (held : tokens_held.Held) (front : List ℕ) (ended : List Token) → length front ≤ file_limit_of held
    → (laid : Laid front ended) → EndsWithSemicolon ended → AreStatementsWithin (record_limit_of held) 0 laid.lexemes
    → tokens.Answers (resting held (length front)) (extended empty (passing_call front ended))
lexer-stands held front ended file laid ends within =
    answers-passed (fresh held) empty front ended (record { refused = refl; start_is = refl; statement_is = refl }) (omega (arith, file))
    (stands-new (fresh held) refl refl refl refl) laid ends within

unseen : (front : List ℕ) → seen_behind None front None ≡ None
unseen [] = refl
unseen (b ∷ front) = refl

-- the tokens of the statements given
abbrev parsed : List Statement → List Token → GrammarHistory
parsed given ended = record { taken = ended; seen = None; given = given; refusal = None }

depth-none : (ended : List Token) → EndsWithSemicolon ended → IsDepth ended 0
depth-none ended ends = record {
  opened = [];
  open_statement =
      record { ended = ended; given_are = sym (append-nil ended); ends = ends; no_semicolon = tt };
  depth_is = refl;
}

parser-stands : (held : grammar_held.Held) (parsing : GrammarHistory) (ended : List Token) → parsing.refusal ≡ None
    → grammar.Stands held parsing → ended ≡ flat_map statement_tokens parsing.given → EndsWithSemicolon ended
    → grammar.Stands (between_statements held.stage) (parsed parsing.given ended)
unfolding grammar.Stands
parser-stands held parsing ended alive stands are ends =
    let live = stands.2 alive in (
      refl,
      depth-none ended ends,
      λ _. record {
        taken_are = are
            ∙ sym (append-nil (flat_map statement_tokens parsing.given));
        leads = live.leads;
        sound = live.sound;
      },
    )

-- ---- each reader that stands for a history

pub has-begun : BeginsBehindStatements
unfolding depth-none
has-begun held reading live =
    let statement = live.ended_by.depth_is.open_statement in
    let ended : List Token = statement.ended in
    let are : ended ≡ flat_map statement_tokens reading.given = live.ended_by.ended_are in
    let own_are : ended ≡ flat_map statement_tokens live.parsing.given = are
    ∙ ap (λ (sts : List Statement). flat_map statement_tokens sts) (sym live.given_are) in
    let within = laid-within held reading live in
    let s = split within.lexemes within.tail live.history.taken ended live.ended_by.depth_is.opened within.laid
    (within.given_are ∙ (sym live.tokens_are ∙ statement.given_are)) in
    let laid : Laid s.front ended = record { lexemes = s.firsts; tokens_are = s.ended_are; laid = s.front_laid } in
    let file : length s.front ≤ file_limit_of held.lexer = let few = within.file_within in let sizes = ap length s.bytes_are in let sum =
    length-append s.front s.own in omega (arith, few, sizes, sum) in
    let few : AreStatementsWithin (record_limit_of held.lexer) 0 s.firsts =
    within-front (record_limit_of held.lexer) 0 s.firsts s.others
    (subst (λ (ls : List Lexeme). AreStatementsWithin (record_limit_of held.lexer) 0 ls) s.lexemes_are within.statements_within) in
    let answers = lexer-stands held.lexer s.front ended file laid statement.ends few in
    record {
      earlier = record { lexer = resting held.lexer (length s.front); parser = between_statements held.parser.stage };
      began_at = record {
        between = record {
          lexer = record { refused = refl; start_is = refl; statement_is = refl };
          parser =
              record { refused = refl; pending = refl; depth = refl };
        };
        limits = refl;
        stage = refl;
      };
      began = record { taken = s.front; seen = None; given = reading.given };
      live = record {
        history = extended empty (passing_call s.front ended);
        lexer = answers.stands;
        answered = inr answers;
        lexer_open = refl;
        taken_are = refl;
        seen_is = unseen s.front;
        parsing = parsed live.parsing.given ended;
        parser = parser-stands held.parser live.parsing ended live.parser_open live.parser own_are statement.ends;
        parser_open = refl;
        tokens_are = refl;
        given_are = live.given_are;
        given_first = λ structure text is_file begins.
            statements-ended reading.given live.of_file.structure [] live.of_file.are_first structure text is_file
            (subst (λ (ts : List Token). grammar.BeginsWithTokens ts structure)
            (are ∙ sym (append-nil (flat_map statement_tokens reading.given))) begins);
        ended_by = record { depth_is = depth-none ended statement.ends; ended_are = are };
        of_file = live.of_file;
      };
      seen_is = refl;
      given_are = refl;
      own = s.own;
      taken_are = sym live.taken_are ∙ s.bytes_are;
      firsts = s.firsts;
      whole = record { laid = s.front_laid; ends = subst EndsWithSemicolon (sym s.ended_are) statement.ends };
      tokens_are = s.ended_are ∙ are;
      open_ = record {
        lexemes = s.others;
        tail = within.tail;
        laid = s.own_laid;
        not_ended = subst (λ (ts : List Token). Each IsNoSemicolon ts) (sym s.opened_are) statement.no_semicolon;
        open_ = open-tail (state_of held.lexer) within.tail within.tail_is;
      };
    }
