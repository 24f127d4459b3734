-- What the bytes are that a reader of statements has taken.
use Rattle.std.proofs.Common.{◌≡◌, ℕ, List, [], ◌++◌, length, None, inl, inr, sym, ap, subst, ◌∙◌}
use Rattle.std.proofs.lemmas.List.{append-nil}
use Rattle.std.specs.List.{flat_map}
use Rattle.p21_grammar.specs.Held as grammar_held
use Rattle.p21_grammar.specs.Histories as grammar
use Rattle.p21_grammar.specs.Histories.{GrammarHistory}
use Rattle.p21_spec_exchange.proofs.Semicolons.{statements-end}
use Rattle.p21_spec_exchange.specs.Laying.{LaidAs, Lexeme, tokens_in}
use Rattle.p21_spec_exchange.specs.OpenNesting.{EndsWithSemicolon}
use Rattle.p21_spec_exchange.specs.Pending.{nothing, open_comment, slash, unfinished}
use Rattle.p21_spec_exchange.specs.Statement.{Statement, statement_tokens}
use Rattle.p21_spec_exchange.specs.Token.{Token}
use Rattle.p21_spec_survey.specs.Survey.{BeginFile}
use Rattle.p21_spec_survey.specs.Whole.{AreWhole}
use Rattle.p21_stream_statements.proofs.Begun.{lexer-live}
use Rattle.p21_stream_statements.specs.Place.{place_behind}
use Rattle.p21_stream_statements.specs.Reopening.{IsBetweenStatements}
use Rattle.p21_stream_statements.specs.StatementReader.{Held, IsLive, StatementHistory}
use Rattle.p21_tokens.proofs.Following.{live-laid}
use Rattle.p21_tokens.specs.Held.{state_of}
use Rattle.p21_tokens_automaton.proofs.Fits.{ModeFits}
use Rattle.p21_tokens_automaton.proofs.Sound.{UpTo}
use Rattle.p21_tokens_automaton.proofs.Theorems.{laid-whole}
use Rattle.p21_tokens_automaton.specs.Reading.{State, start}
use Rattle.p21_tokens_automaton.specs.declared.mode.Mode.TheVariants.{Between, Comment, Slash, Star}

-- ---- no statement is open

-- between tokens nothing is open
start-laid : (bytes : List ℕ) (lexemes : List Lexeme) (e : State) → UpTo bytes lexemes e → e ≡ start → LaidAs bytes lexemes
start-laid bytes lexemes e (nothing, laid, is) same = laid-whole bytes lexemes laid
start-laid bytes lexemes e (slash, laid, is) same = let clash : Slash ≡ Between = ap (λ (s : State). s.mode) (sym is ∙ same) in cc
start-laid bytes lexemes e (open_comment inside, laid, is) same = elim is.0 [
  | inl own ↦ (let clash : Comment ≡ Between = ap (λ (s : State). s.mode) (sym own ∙ same) in cc)
  | inr own ↦ (let clash : Star ≡ Between = ap (λ (s : State). s.mode) (sym own ∙ same) in cc)
]
start-laid bytes lexemes e (unfinished inside, laid, is) same =
    absurd (subst (λ (s : State). ModeFits s.mode s.pending_bytes s.characters inside) same is.0)

-- the parser holds no token of an open one
all-given : (held : grammar_held.Held) (parsing : GrammarHistory) → grammar.Stands held parsing → parsing.refusal ≡ None → held.pending ≡ []
    → parsing.taken ≡ flat_map statement_tokens parsing.given
unfolding grammar.Stands
all-given held parsing stands alive none =
    (stands.2 alive).taken_are ∙ (ap (λ (ts : List Token). flat_map statement_tokens parsing.given ++ ts) none
    ∙ append-nil (flat_map statement_tokens parsing.given))

-- so the tokens given are those of the statements given
pub between-given : (held : Held) (reading : StatementHistory) → IsBetweenStatements held → (live : IsLive held reading)
    → live.history.given ≡ flat_map statement_tokens reading.given
between-given held reading between live =
    sym live.tokens_are
    ∙ (all-given held.parser live.parsing live.parser live.parser_open between.parser.pending
    ∙ ap (λ (sts : List Statement). flat_map statement_tokens sts) live.given_are)

-- and the bytes taken are these whole statements
pub between-whole : (held : Held) (reading : StatementHistory) → IsBetweenStatements held → IsLive held reading
    → (lexemes : List Lexeme) × AreWhole reading.taken lexemes × (tokens_in lexemes ≡ flat_map statement_tokens reading.given)
between-whole held reading between live =
    let own = lexer-live held.lexer live.history live.lexer live.lexer_open in
    let laid : LaidAs live.history.taken own.lexemes =
    start-laid live.history.taken own.lexemes (state_of held.lexer) (live-laid held.lexer live.history own) between.lexer.start_is in
    let are : tokens_in own.lexemes ≡ flat_map statement_tokens reading.given = own.given_are ∙ between-given held reading between live in (
      own.lexemes,
      record {
        laid = subst (λ (bytes : List ℕ). LaidAs bytes own.lexemes) live.taken_are laid;
        ends = subst EndsWithSemicolon (sym are) (statements-end reading.given);
      },
      are,
    )

-- ---- whether one is open or not

-- it stands behind the bytes taken
pub place-live : (held : Held) (reading : StatementHistory) → IsLive held reading → place_behind held ≡ length reading.taken
place-live held reading live = (lexer-live held.lexer live.history live.lexer live.lexer_open).file_is ∙ ap length live.taken_are

-- some file begins with the statements given
pub given-begin : (held : Held) (reading : StatementHistory) → IsLive held reading → BeginFile reading.given
given-begin held reading live = (live.of_file.structure, live.of_file.text, live.of_file.is_file, live.of_file.are_first)
