-- How many tokens a lexer has given, by the bytes that it has taken; and a step that takes none.
use Rattle.std.proofs.Common.{◌≡◌, ◌≢◌, ◌⊎◌, ◌+◌, ◌≤◌, ℕ, suc, List, [], ◌∷◌, ◌++◌, length, Option, Some, None, refl, sym, ap, ◌∙◌, length-append, append-nil, arith, inl, inr}
use Rattle.p21_spec_exchange.specs.Laying.{Lexeme, tokens_in}
use Rattle.p21_tokens.proofs.Passing.{resting-history}
use Rattle.p21_tokens.specs.Histories as tokens
use Rattle.p21_tokens.specs.Histories.{TokenHistory}
use Rattle.p21_stream_statements.specs.Reopening.{IsBetweenStatements}
use Rattle.p21_stream_statements.specs.StatementReader.{Held, IsLive, StatementHistory}
use Rattle.p21_tokens.specs.Held as tokens_held
use Rattle.p21_tokens.specs.Held.{state_of}
use Rattle.p21_tokens_automaton.specs.Meaning.{MeanAll}
use Rattle.p21_tokens_automaton.specs.Reading.{Answer, SizedToken, lex, start}

abbrev pub seen_count : Option ℕ → ℕ
seen_count None = 0
seen_count (Some byte) = 1

mean-length : (fs : List SizedToken) (ls : List Lexeme) → MeanAll fs ls → length (tokens_in ls) ≡ length fs
mean-length [] [] mean = refl
mean-length [] (l ∷ ls) mean = absurd mean
mean-length (f ∷ fs) [] mean = absurd mean
mean-length (f ∷ fs) (l ∷ ls) mean = ap suc (mean-length fs ls mean.2)

founds-counted : (held : tokens_held.Held) (taken : List ℕ) (seen : Option ℕ) (founds : List SizedToken)
    → ((rest : List ℕ) → tokens.BeginsWithSeen seen rest
    → lex start (taken ++ rest) ≡ record {
      given = founds ++ (lex (state_of held) rest).given;
      ending =
          (lex (state_of held) rest).ending;
    })
    → (seen ≡ None) ⊎ tokens.IsHandedOver held taken founds → length founds ≡ length (lex start taken).given + seen_count seen
unfolding lex
founds-counted held taken None founds reads seen_is =
    let whole : lex start taken ≡ record { given = founds ++ []; ending = (lex (state_of held) []).ending } =
    ap (lex start) (sym (append-nil taken)) ∙ reads [] tt in
    let one : length (lex start taken).given ≡ length (founds ++ []) = ap (λ (a : Answer). length a.given) whole in
    let two = length-append founds [] in
    omega (arith, one, two)
founds-counted held taken (Some byte) founds reads (inl none) = absurd cc
founds-counted held taken (Some byte) founds reads (inr over) =
    let one : length (lex start taken).given ≡ length over.front = ap (λ (a : Answer). length a.given) over.read in
    let last : List SizedToken = record { found = over.last; size = over.state.size } ∷ [] in
    let two : length founds ≡ length (over.front ++ last) = ap length over.founds_are in
    let three = length-append over.front last in
    omega (arith, one, two, three)

pub counted : (held : tokens_held.Held) (history : TokenHistory) → tokens.IsLive held history
    → length history.given ≡ length (lex start history.taken).given + seen_count history.seen
counted held history live = ap length (sym live.given_are) ∙ mean-length live.founds live.lexemes live.mean
    ∙ founds-counted held history.taken history.seen live.founds live.reads live.seen_is

-- ---- a step that takes no bytes

none-seen : (seen : Option ℕ) → seen_count seen ≡ 0 → seen ≡ None
none-seen None none = refl
none-seen (Some byte) none = cc

-- one token more of the same bytes was given by the byte behind it
pub seen-now : (old new : tokens_held.Held) (before after : TokenHistory) → tokens.IsLive old before → tokens.IsLive new after
    → after.taken ≡ before.taken → length after.given ≡ length before.given + 1 → (before.seen ≡ None) × (after.seen ≢ None)
seen-now old new before after live live_ same one_more =
    let count = counted old before live in
    let count_ = counted new after live_ in
    let lexed : length (lex start after.taken).given ≡ length (lex start before.taken).given =
    ap (λ (bytes : List ℕ). length (lex start bytes).given) same in
    let most = at-most after.seen in (
      none-seen before.seen (omega (arith, count, count_, lexed, one_more, most)),
      λ none. (let zero_ = ap seen_count none in omega (arith, count, count_, lexed, one_more, zero_)),
    )
  where
    at-most : (seen : Option ℕ) → seen_count seen ≤ 1
    at-most None = omega arith
    at-most (Some byte) = omega arith

-- behind the end of a statement no byte has been looked at
pub unseen-between : (held : Held) (reading : StatementHistory) → IsBetweenStatements held → IsLive held reading → reading.seen ≡ None
unseen-between held reading between live = sym live.seen_is ∙ (resting-history held.lexer live.history between.lexer live.lexer).seen
