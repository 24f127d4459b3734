-- Bytes of whole statements, which a lexer passes over.
use Rattle.std.proofs.Common.{◌≡◌, ℕ, ◌+◌, ◌≤◌, ◌<◌, true, false, nat_eq, List, [], ◌∷◌, ◌++◌, inl, inr, length, length-append, refl, sym, ap, ◌∙◌, subst, append_assoc, arith, Option, Some, None}
use Rattle.std.proofs.lemmas.Bool.{eqb-true}
use Rattle.std.specs.Option.{is_some}
use Rattle.p21_spec_basics.specs.History.{extended, first_refusal, seen_behind}
use Rattle.p21_spec_exchange.specs.Laying.{Lexeme, LaidAs, Laid, tokens_in, open_bytes, count_behind, AreStatementsWithin}
use Rattle.p21_spec_exchange.specs.OpenNesting.{EndsWithSemicolon}
use Rattle.p21_spec_exchange.specs.Token.{Token, IsFollowed, IsWholeAtOnce}
use Rattle.p21_tokens_automaton.proofs.Prefixes.{laid-few, spelling-some}
use Rattle.p21_tokens_automaton.proofs.Gaps.{gap-run}
use Rattle.p21_tokens_automaton.proofs.Once.{spells-means}
use Rattle.p21_tokens_automaton.proofs.Steps.{lex-end}
use Rattle.p21_tokens_automaton.proofs.Theorems.{readings, given-at-once}
use Rattle.p21_tokens_automaton.specs.Meaning.{MeanAll, found_of}
use Rattle.p21_tokens_automaton.specs.Reading.{State, start, Answer, before, after, SizedToken, lex}
use Rattle.p21_tokens_automaton.specs.declared.mode.Mode.TheVariants.{Between}
use Rattle.p21_tokens.proofs.Extending.{stands-live, answers-live}
use Rattle.p21_tokens.proofs.Following.{tokens-append, mean-append, InParts, in-parts, open-append, within-append, count-le, after-append, laid-to-end, handed-laid, live-pending}
use Rattle.p21_tokens.proofs.Stepping.{ended_token-waits, waits-count}
use Rattle.p21_tokens.specs.Held.{Held, IsEmptyAtSizeZero, pending_of}
use Rattle.p21_tokens.specs.Histories.{TokenHistory, IsLive, IsHandedOver, BeginsWithSeen, IsPendingBehind, Stands, Answers}
use Rattle.p21_tokens.specs.Passing.{IsResting, IsAtRest, room_of, passing_call, GivesPassed}
use Rattle.p21_tokens.specs.declared.fault.TokenFault.{TokenFault}

-- ---- whole statements, whatever stands behind them

-- the bytes are read as these, and nothing is open behind them
record ReadsWhole (bytes : List ℕ) (lexemes : List Lexeme) : Type 0 where
  founds : List SizedToken
  mean : MeanAll founds lexemes
  reads : (more : List ℕ) → lex start (bytes ++ more) ≡ after founds (lex start more)

-- the first token of some, with separators in front of it
module _ (bytes : List ℕ) (x : Lexeme) (lexemes : List Lexeme) (l : LaidAs bytes (x ∷ lexemes)) where
  -- the spelling is read as the token, whatever stands behind what follows it
  abbrev ReadsFirst : Type 0
  ReadsFirst = (more : List ℕ) → lex start (l.1 ++ (l.2 ++ more)) ≡ before (record { found = found_of x.token l.1; size = length l.1 }) (lex start (l.2 ++ more))

  followed : 0 < length l.2 → ReadsFirst
  followed some more = by l.2 some l.7
    where
      by : (rest : List ℕ) → 0 < length rest → IsFollowed x.token l.1 rest
          → lex start (l.1 ++ (rest ++ more)) ≡ before (record { found = found_of x.token l.1; size = length l.1 }) (lex start (rest ++ more))
      by [] s f = absurd (omega arith)
      by (b ∷ rest) s f = elim (readings x.token l.1 l.5) [
        | inl w ↦ w.reaches (b ∷ (rest ++ more)) ∙ (lex-end w.state (found_of x.token l.1) b (rest ++ more) (w.ends b f) w.ended_is
            ∙ ap (λ (n : ℕ). before (record { found = found_of x.token l.1; size = n }) (lex start (b ∷ (rest ++ more)))) w.size_is)
        | inr g ↦ g.run (b ∷ (rest ++ more))
      ]

  joined : ReadsFirst → ReadsWhole l.2 lexemes → ReadsWhole bytes (x ∷ lexemes)
  joined here rest = record {
    founds = record { found = found_of x.token l.1; size = length l.1 } ∷ rest.founds;
    mean = (spells-means x.token l.1 l.5, l.6, rest.mean);
    reads = λ more.
        ap (λ (y : List ℕ). lex start (y ++ more)) l.3
        ∙ (ap (λ (y : List ℕ). lex start y) (append_assoc l.0 (l.1 ++ l.2) more ∙ ap (λ (y : List ℕ). l.0 ++ y) (append_assoc l.1 l.2 more))
        ∙ (gap-run l.0 l.4 (l.1 ++ (l.2 ++ more)) ∙ (here more ∙ ap (λ (a : Answer). before (record { found = found_of x.token l.1; size = length l.1 }) a) (rest.reads more))));
  }

laid-some : (bytes : List ℕ) (x : Lexeme) (lexemes : List Lexeme) → LaidAs bytes (x ∷ lexemes) → 0 < length bytes
laid-some bytes x lexemes l = let few = laid-few (x ∷ lexemes) bytes [] (laid-to-end bytes (x ∷ lexemes) l) in omega arith

reads-whole : (lexemes : List Lexeme) (bytes : List ℕ) → LaidAs bytes lexemes → EndsWithSemicolon (tokens_in lexemes) → ReadsWhole bytes lexemes
reads-whole [] bytes l e = record { founds = []; mean = tt; reads = λ more. gap-run bytes l more }
reads-whole (x ∷ []) bytes l e =
    let at_once : IsWholeAtOnce x.token = subst IsWholeAtOnce (sym e) tt in
    joined bytes x [] l (λ more. (given-at-once x.token l.1 l.5 at_once).run (l.2 ++ more)) (reads-whole [] l.2 l.8 tt)
reads-whole (x ∷ y ∷ lexemes) bytes l e = joined bytes x (y ∷ lexemes) l (followed bytes x (y ∷ lexemes) l (laid-some l.2 y lexemes l.8)) (reads-whole (y ∷ lexemes) l.2 l.8 e)

-- ---- their sizes

-- no token byte is open behind them
open-ended_token : (n : ℕ) (x : Lexeme) (lexemes : List Lexeme) → EndsWithSemicolon (tokens_in (x ∷ lexemes)) → open_bytes n (x ∷ lexemes) ≡ 0
open-ended_token n x [] e = ap (λ (t : Token). count_behind n (record { token = t; size = x.size })) e
open-ended_token n x (y ∷ lexemes) e = open-ended_token (count_behind n x) y lexemes e

none-open : (lexemes : List Lexeme) → EndsWithSemicolon (tokens_in lexemes) → open_bytes 0 lexemes ≡ 0
none-open [] e = refl
none-open (x ∷ lexemes) e = open-ended_token 0 x lexemes e

-- where all bytes are within the limit, each statement is
laid-within : (limit n : ℕ) (lexemes : List Lexeme) (bytes : List ℕ) → LaidAs bytes lexemes → n + length bytes ≤ limit → AreStatementsWithin limit n lexemes
laid-within limit n [] bytes l h = tt
laid-within limit n (x ∷ lexemes) bytes l h =
    let size = l.6 in
    let sum = ap length l.3 in
    let one = length-append l.0 (l.1 ++ l.2) in
    let two = length-append l.1 l.2 in
    let count = count-le x.token x.size n in
    (omega arith, laid-within limit (count_behind n x) lexemes l.2 l.8 (omega arith))

-- ---- a lexer at rest

last-some : (front : List Lexeme) (last : Lexeme) (bytes : List ℕ) → LaidAs bytes (front ++ last ∷ []) → 0 < last.size
last-some [] last bytes l = let some = spelling-some last.token l.1 l.5 in let size = l.6 in omega arith
last-some (x ∷ front) last bytes l = last-some front last l.2 l.8

-- no token that waited was handed over, since its bytes would be open
resting-unseen : (v : Held) (h : TokenHistory) → IsLive v h → IsResting v → h.seen ≡ None
resting-unseen v h live is = elim live.seen_is [
  | inl e ↦ e
  | inr told ↦ absurd (handed told)
]
  where
    handed : IsHandedOver v h.taken live.founds → ⊥
    handed told = one parts.front parts.behind parts.lexemes_are parts.mean_behind
      where
        parts : InParts told.front (record { found = told.last; size = told.state.size } ∷ []) live.lexemes
        parts = in-parts told.front (record { found = told.last; size = told.state.size } ∷ []) live.lexemes (subst (λ (x : List SizedToken). MeanAll x live.lexemes) told.founds_are live.mean)

        one : (front behind : List Lexeme) → live.lexemes ≡ front ++ behind → MeanAll (record { found = told.last; size = told.state.size } ∷ []) behind → ⊥
        one front [] q m = absurd m
        one front (x ∷ y ∷ behind) q m = absurd m.2
        one front (x ∷ []) q m =
            let some = last-some front x h.taken (subst (λ (ls : List Lexeme). LaidAs h.taken ls) q (handed-laid v h live told)) in
            let counts = waits-count x.token x.size (open_bytes 0 front) (ended_token-waits told.state.mode told.state.pending_bytes told.state.characters told.last told.ended_is x.token m.0) in
            let sum : 0 ≡ count_behind (open_bytes 0 front) x = sym is.statement_is ∙ (live.statement_is ∙ (ap (λ (ls : List Lexeme). open_bytes 0 ls) q ∙ open-append 0 front (x ∷ []))) in
            omega arith

none-is : (refused : Option TokenFault) → false ≡ is_some refused → refused ≡ None
none-is None e = refl
none-is (Some fault) e = absurd cc

pub rests : (v : Held) → false ≡ is_some v.refused → v.mode ≡ Between → v.size ≡ 0 → nat_eq v.statement 0 ≡ true → IsEmptyAtSizeZero v.size v.pending_bytes v.characters → IsResting v
rests v none mode size statement keeps =
    let pending_bytes = keeps size in
    record { refused = none-is v.refused none; start_is = rw (mode, size, pending_bytes.0, pending_bytes.1) refl; statement_is = eqb-true v.statement 0 statement }

resting-pending : (v : Held) → IsResting v → pending_of v ≡ 0
resting-pending v is = let size = ap (λ (s : State). s.size) is.start_is in let statement = is.statement_is in omega arith

pub resting-history : (v : Held) (h : TokenHistory) → IsResting v → Stands v h → IsAtRest h
resting-history v h is stands =
    let now = stands-live v h stands is.refused in
    record {
      refusal = now.0;
      seen = resting-unseen v h now.1 is;
      pending = subst (λ (n : ℕ). IsPendingBehind h n) (resting-pending v is) (live-pending v h now.1);
    }

-- ---- bytes passed over

unseen-on : (seen : Option ℕ) (bytes : List ℕ) → seen ≡ None → seen_behind seen bytes None ≡ None
unseen-on seen [] e = e
unseen-on seen (b ∷ bytes) e = refl

abbrev passed : Held → ℕ → Held
passed v count = record v { file = v.file + count }

live-passed : (v : Held) (h : TokenHistory) (bytes : List ℕ) (tokens : List Token) → IsLive v h → IsResting v → (laid : Laid bytes tokens) → EndsWithSemicolon tokens → AreStatementsWithin v.statement_limit 0 laid.lexemes
    → IsLive (passed v (length bytes)) (extended h (passing_call bytes tokens))
live-passed v h bytes tokens live is laid ends within =
    let run = reads-whole laid.lexemes bytes laid.laid (subst EndsWithSemicolon (sym laid.tokens_are) ends) in
    let closed_token : open_bytes 0 live.lexemes ≡ 0 = sym live.statement_is ∙ is.statement_is in
    let unseen = resting-unseen v h live is in
    record {
      founds = live.founds ++ run.founds;
      lexemes = live.lexemes ++ laid.lexemes;
      mean = mean-append live.founds run.founds live.lexemes laid.lexemes live.mean run.mean;
      given_are = tokens-append live.lexemes laid.lexemes ∙ (ap (λ (x : List Token). x ++ tokens_in laid.lexemes) live.given_are ∙ ap (λ (x : List Token). h.given ++ x) laid.tokens_are);
      file_is = let p = length-append h.taken bytes in omega (arith, live.file_is);
      statement_is =
          is.statement_is ∙ sym (open-append 0 live.lexemes laid.lexemes ∙ (ap (λ (n : ℕ). open_bytes n laid.lexemes) closed_token ∙ none-open laid.lexemes (subst EndsWithSemicolon (sym laid.tokens_are) ends)));
      statements_within = within-append v.statement_limit 0 live.lexemes laid.lexemes live.statements_within
          (subst (λ (n : ℕ). AreStatementsWithin v.statement_limit n laid.lexemes) (sym closed_token) within);
      reads = λ rest _.
          ap (λ (x : List ℕ). lex start x) (append_assoc h.taken bytes rest)
          ∙ (live.reads (bytes ++ rest) (subst (λ (o : Option ℕ). BeginsWithSeen o (bytes ++ rest)) (sym unseen) tt)
          ∙ (ap (λ (s : State). after live.founds (lex s (bytes ++ rest))) is.start_is
          ∙ (ap (λ (a : Answer). after live.founds a) (run.reads rest)
          ∙ (sym (after-append live.founds run.founds (lex start rest)) ∙ ap (λ (s : State). after (live.founds ++ run.founds) (lex s rest)) (sym is.start_is)))));
      seen_is = inl (unseen-on h.seen bytes unseen);
    }

pub answers-passed : (v : Held) (h : TokenHistory) (bytes : List ℕ) (tokens : List Token) → IsResting v → v.file + length bytes ≤ v.file_limit → Stands v h → (laid : Laid bytes tokens) → EndsWithSemicolon tokens → AreStatementsWithin v.statement_limit 0 laid.lexemes
    → Answers (passed v (length bytes)) (extended h (passing_call bytes tokens))
unfolding Stands
answers-passed v h bytes tokens is file stands laid ends within =
    let now = stands-live v h stands is.refused in
    let live = live-passed v h bytes tokens now.1 is laid ends within in
    let alive = ap (λ (x : Option TokenFault). first_refusal x None) now.0 in
    let none = resting-pending v is in
    answers-live _ _ (is.refused ∙ sym alive, λ _. live, live-pending _ _ live) alive live (omega arith) (omega arith)

pub gives-passed : (v w : Held) (count : ℕ) → IsResting v → v.file ≤ v.file_limit → count ≤ room_of v → w ≡ passed v count → GivesPassed v count w
gives-passed v w count is file room same history bytes tokens stands counted laid ends =
    let long : length bytes ≤ room_of v = subst (λ (n : ℕ). n ≤ room_of v) (sym counted) room in
    subst (λ (x : Held). Answers x (extended history (passing_call bytes tokens))) (ap (λ (n : ℕ). passed v n) counted ∙ sym same) (answers-passed v history bytes tokens is (omega arith) stands laid ends (laid-within v.statement_limit 0 laid.lexemes bytes laid.laid (omega arith)))
