-- What the limits bound of the bytes that a reader has taken.
use Rattle.std.proofs.Common.{◌≡◌, ◌≤◌, ℕ, List, [], ◌∷◌, ◌++◌, length, Option, Some, None, inl, inr, refl, sym, ap, subst, ◌∙◌, length-append, arith}
use Rattle.std.proofs.lemmas.List.{append-nil}
use Rattle.std.specs.List.{flat_map}
use Rattle.p21_spec_basics.specs.History.{empty, looked_at}
use Rattle.p21_spec_laws.proofs.OneReading.{one_lexemes}
use Rattle.p21_spec_laws.proofs.Whole.{within-up_to}
use Rattle.p21_spec_exchange.specs.Laying.{AreStatementsWithin, Laid, LaidAs, Lexeme}
use Rattle.p21_spec_exchange.specs.Statement.{Statement, statement_tokens}
use Rattle.p21_spec_exchange.specs.Token.{Token}
use Rattle.p21_stream_statements.proofs.Stepping.{given-first}
use Rattle.p21_stream_statements.specs.StatementReader.{Held, IsLive, AreWholeStatements, StatementHistory, limits_of}
use Rattle.p21_tokens.specs.Histories.{TokenHistory}

-- ---- of bytes and tokens

pub nothing-taken : (held : Held) (reading : StatementHistory) (live : IsLive held reading) → live.history ≡ empty → reading.taken ≡ []
nothing-taken held reading live none = sym live.taken_are ∙ ap (λ (h : TokenHistory). h.taken) none

pub source-within : (held : Held) (reading : StatementHistory) → IsLive held reading → length reading.taken ≤ (limits_of held).1
source-within held reading live = elim live.answered [
  | inl none ↦ (let size : length reading.taken ≡ 0 = ap length (nothing-taken held reading live none) in omega (arith, size))
  | inr answers ↦ (let within = answers.file_within in let same : length live.history.taken ≡ length reading.taken =
      ap length live.taken_are in omega (arith, within, same))
]

pub given-few : (held : Held) (reading : StatementHistory) (live : IsLive held reading) → length live.history.given ≤ length reading.taken
given-few held reading live = elim live.answered [
  | inl none ↦ (let size : length live.history.given ≡ 0 = ap (λ (h : TokenHistory). length h.given) none in omega (arith, size))
  | inr answers ↦ (let few = answers.given_few in let same : length live.history.taken ≡ length reading.taken = ap length live.taken_are in
      omega (arith, few, same))
]

-- the tokens given are those of the statements given and of the open one
pub tokens-given : (held : Held) (reading : StatementHistory) (live : IsLive held reading)
    → live.history.given ≡ flat_map statement_tokens reading.given ++ live.ended_by.depth_is.opened
tokens-given held reading live =
    sym live.tokens_are ∙ live.ended_by.depth_is.open_statement.given_are
    ∙ ap (λ (ts : List Token). ts ++ live.ended_by.depth_is.opened) live.ended_by.ended_are

pub statements-few : (held : Held) (reading : StatementHistory) → IsLive held reading
    → length (flat_map statement_tokens reading.given) ≤ length reading.taken
statements-few held reading live =
    let few = given-few held reading live in
    let sizes : length live.history.given ≡ length (flat_map statement_tokens reading.given ++ live.ended_by.depth_is.opened) =
    ap length (tokens-given held reading live) in
    let sum = length-append (flat_map statement_tokens reading.given) live.ended_by.depth_is.opened in
    omega (arith, few, sizes, sum)

-- ---- of the statements of a file

no-more : (l : List Token) → length l ≡ 0 → l ≡ []
no-more [] none = refl
no-more (x ∷ xs) none = cc

-- the tokens of a whole file have been given
tokens-whole : (held : Held) (reading : StatementHistory) (live : IsLive held reading) → reading.seen ≡ None
    → (w : AreWholeStatements reading.taken reading.given) → w.found ≡ live.history.given
tokens-whole held reading live none w =
    let seen : live.history.seen ≡ None = live.seen_is ∙ none in
    let bytes : looked_at live.history ++ [] ≡ reading.taken =
    append-nil (looked_at live.history) ∙ ap (λ (o : Option ℕ). live.history.taken ++ elim o [ None ↦ [] | Some byte ↦ byte ∷ [] ]) seen
    ∙ append-nil live.history.taken ∙ live.taken_are in
    let (more, is) = given-first held reading live [] w.found (subst (λ (b : List ℕ). Laid b w.found) (sym bytes) w.laid) in
    let own : w.found ≡ flat_map statement_tokens reading.given = sym w.whole.tokens_are
    ∙ ap (λ (sts : List Statement). flat_map statement_tokens sts) w.whole.statements_are in
    let one : length w.found ≡ length (live.history.given ++ more) = ap length is in
    let two = length-append live.history.given more in
    let three : length w.found ≡ length (flat_map statement_tokens reading.given) = ap length own in
    let four : length live.history.given ≡ length (flat_map statement_tokens reading.given ++ live.ended_by.depth_is.opened) =
    ap length (tokens-given held reading live) in
    let five = length-append (flat_map statement_tokens reading.given) live.ended_by.depth_is.opened in
    let size : length more ≡ 0 = omega (arith, one, two, three, four, five) in
    is ∙ ap (λ (l : List Token). live.history.given ++ l) (no-more more size) ∙ append-nil live.history.given

-- and each statement of it is within its limit
pub statements-within : (held : Held) (reading : StatementHistory) → IsLive held reading → reading.seen ≡ None
    → (w : AreWholeStatements reading.taken reading.given) → AreStatementsWithin (limits_of held).0 0 w.laid.lexemes
statements-within held reading live none w = elim live.answered [
  | inl nothing ↦ (let bare : LaidAs [] w.laid.lexemes =
      subst (λ (b : List ℕ). LaidAs b w.laid.lexemes) (nothing-taken held reading live nothing) w.laid.laid in
      let same : [] ≡ w.laid.lexemes = one_lexemes [] [] w.laid.lexemes ([], tt, refl) bare in
      subst (λ (ls : List Lexeme). AreStatementsWithin (limits_of held).0 0 ls) same tt)
  | inr answers ↦ (let l = answers.laid_within in
      let laid : Laid live.history.taken live.history.given = record {
        lexemes = w.laid.lexemes;
        tokens_are = w.laid.tokens_are ∙ tokens-whole held reading live none w;
        laid = subst (λ (b : List ℕ). LaidAs b w.laid.lexemes) (sym live.taken_are) w.laid.laid;
      } in
      within-up_to live.history.taken l.lexemes l.tail (limits_of held).0 l.laid l.statements_within live.history.given l.given_are laid)
]
