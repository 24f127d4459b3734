-- What follows of what a lexer stands for.
use Rattle.std.proofs.Common.{◌≡◌, ℕ, suc, ◌+◌, ◌≤◌, List, [], ◌∷◌, ◌++◌, inl, inr, length, refl, sym, ap, ◌∙◌, subst, append_assoc, append-nil, arith, Option, Some, None}
use Rattle.p21_spec_basics.specs.History.{looked_at}
use Rattle.p21_spec_exchange.specs.Laying.{Lexeme, LaidAs, tokens_in, open_bytes, count_behind, AreStatementsWithin}
use Rattle.p21_spec_exchange.specs.Pending.{nothing, tail_bytes, IsPending}
use Rattle.p21_spec_exchange.specs.Token.{Token, semicolon, IsWholeAtOnce}
use Rattle.p21_tokens_automaton.proofs.Complete.{all_tokens-after}
use Rattle.p21_tokens_automaton.proofs.Sound.{LaidTo, UpTo, read}
use Rattle.p21_tokens_automaton.proofs.Steps.{lex-nil}
use Rattle.p21_tokens_automaton.proofs.Theorems.{laid_read, read_laid, tail-is, laid-up-to, size-is, tokens-first}
use Rattle.p21_tokens_automaton.proofs.Prefixes.{ended_token-laid, laid-few, front-run}
use Rattle.p21_tokens_automaton.specs.Meaning.{MeanAll}
use Rattle.p21_tokens_automaton.specs.Reading.{State, start, Answer, without_tokens, open_at, after, SizedToken, all_tokens, lex}
use Rattle.p21_tokens.specs.Held.{Held, pending_of, state_of}
use Rattle.p21_tokens.specs.Histories.{TokenHistory, IsLive, IsHandedOver, BeginsWithSeen, AreGivenFirst, AreGivenAtOnce, IsLaidWithin, IsOpen, IsPendingBehind}
use Rattle.p21_tokens.specs.Steps.{rest_of}

-- ---- lists of tokens and what they were found as

pub tokens-append : (ls ms : List Lexeme) → tokens_in (ls ++ ms) ≡ tokens_in ls ++ tokens_in ms
tokens-append [] ms = refl
tokens-append (l ∷ ls) ms = ap (λ (ts : List Token). l.token ∷ ts) (tokens-append ls ms)

pub mean-append : (fs gs : List SizedToken) (ls ms : List Lexeme) → MeanAll fs ls → MeanAll gs ms → MeanAll (fs ++ gs) (ls ++ ms)
mean-append [] gs [] ms p q = q
mean-append [] gs (l ∷ ls) ms p q = absurd p
mean-append (f ∷ fs) gs [] ms p q = absurd p
mean-append (f ∷ fs) gs (l ∷ ls) ms p q = (p.0, p.1, mean-append fs gs ls ms p.2 q)

-- the lexemes of what is found in two parts
pub record InParts (fs gs : List SizedToken) (lexemes : List Lexeme) : Type 0 where
  pub front : List Lexeme
  pub behind : List Lexeme
  pub lexemes_are : lexemes ≡ front ++ behind
  pub mean_front : MeanAll fs front
  pub mean_behind : MeanAll gs behind

pub in-parts : (fs gs : List SizedToken) (ls : List Lexeme) → MeanAll (fs ++ gs) ls → InParts fs gs ls
in-parts [] gs ls m = record { front = []; behind = ls; lexemes_are = refl; mean_front = tt; mean_behind = m }
in-parts (f ∷ fs) gs [] m = absurd m
in-parts (f ∷ fs) gs (l ∷ ls) m =
    let rest = in-parts fs gs ls m.2 in
    record {
      front = l ∷ rest.front;
      behind = rest.behind;
      lexemes_are = ap (λ (x : List Lexeme). l ∷ x) rest.lexemes_are;
      mean_front = (m.0, m.1, rest.mean_front);
      mean_behind = rest.mean_behind;
    }

pub open-append : (n : ℕ) (ls ms : List Lexeme) → open_bytes n (ls ++ ms) ≡ open_bytes (open_bytes n ls) ms
open-append n [] ms = refl
open-append n (x ∷ ls) ms = open-append (count_behind n x) ls ms

pub within-append : (limit n : ℕ) (ls ms : List Lexeme) → AreStatementsWithin limit n ls → AreStatementsWithin limit (open_bytes n ls) ms → AreStatementsWithin limit n (ls ++ ms)
within-append limit n [] ms p q = q
within-append limit n (x ∷ ls) ms p q = (p.0, within-append limit (count_behind n x) ls ms p.1 q)

pub count-le : (token : Token) (size n : ℕ) → count_behind n (record { token = token; size = size }) ≤ n + size
count-le semicolon size n = omega arith
count-le _ size n = omega arith

pub after-append : (fs gs : List SizedToken) (a : Answer) → after (fs ++ gs) a ≡ after fs (after gs a)
after-append fs gs a = let P : List SizedToken → Answer = λ xs. record { given = xs; ending = a.ending } in ap P (append_assoc fs gs a.given)

pub after-nothing : (fs : List SizedToken) (e : State) → after fs (without_tokens (open_at e)) ≡ read fs e
after-nothing fs e = ap (λ (xs : List SizedToken). read xs e) (append-nil fs)

length-tokens : (ls : List Lexeme) → length (tokens_in ls) ≡ length ls
length-tokens [] = refl
length-tokens (l ∷ ls) = ap suc-length (length-tokens ls)
  where
    suc-length : ℕ → ℕ
    suc-length n = suc n

-- the lexemes of tokens with one last
split-last : (ls : List Lexeme) (tokens : List Token) (last : Token) → tokens_in ls ≡ tokens ++ last ∷ [] → (front : List Lexeme) × (l : Lexeme) × (ls ≡ front ++ l ∷ []) × (l.token ≡ last)
split-last [] [] last e = absurd cc
split-last [] (t ∷ tokens) last e = absurd cc
split-last (l ∷ []) [] last e = ([], l, refl, (cc))
split-last (l ∷ k ∷ ls) [] last e = absurd cc
split-last (l ∷ ls) (t ∷ tokens) last e =
    let rest = split-last ls tokens last (cc) in (l ∷ rest.0, rest.1, ap (λ (x : List Lexeme). l ∷ x) rest.2, rest.3)

pub laid-to-end : (bytes : List ℕ) (ls : List Lexeme) → LaidAs bytes ls → LaidTo bytes ls []
laid-to-end bytes [] l = (bytes, sym (append-nil bytes), l)
laid-to-end bytes (x ∷ ls) l = (l.0, l.1, l.2, l.3, l.4, l.5, l.6, l.7, laid-to-end l.2 ls l.8)

-- ---- the bytes taken

module _ (v : Held) (h : TokenHistory) (live : IsLive v h) where
  -- where no byte was seen, all that was found is of the bytes taken
  pub whole-read : h.seen ≡ None → lex start h.taken ≡ read live.founds (state_of v)
  whole-read e =
      ap (λ (x : List ℕ). lex start x) (sym (append-nil h.taken)) ∙ (live.reads [] (subst (λ (o : Option ℕ). BeginsWithSeen o []) (sym e) tt)
      ∙ (ap (λ (a : Answer). after live.founds a) (lex-nil (state_of v)) ∙ after-nothing live.founds (state_of v)))

  -- the token handed over, behind those in front of it
  pub handed-laid : (told : IsHandedOver v h.taken live.founds) → LaidAs h.taken live.lexemes
  handed-laid told =
      let last : SizedToken = record { found = told.last; size = told.state.size } in
      at (in-parts told.front (last ∷ []) live.lexemes (subst (λ (x : List SizedToken). MeanAll x live.lexemes) told.founds_are live.mean))
    where
      at : InParts told.front (record { found = told.last; size = told.state.size } ∷ []) live.lexemes → LaidAs h.taken live.lexemes
      at parts = subst (λ (x : List Lexeme). LaidAs h.taken x) (sym parts.lexemes_are) (one parts.behind parts.mean_behind)
        where
          one : (ls : List Lexeme) → MeanAll (record { found = told.last; size = told.state.size } ∷ []) ls → LaidAs h.taken (parts.front ++ ls)
          one [] m = absurd m
          one (l ∷ []) m = ended_token-laid h.taken parts.front told.state told.last l (read_laid h.taken told.front parts.front told.state told.read parts.mean_front) told.ended_is m.0 m.1
          one (l ∷ k ∷ ls) m = absurd m.2

  pub live-open : IsOpen h.taken
  live-open = elim live.seen_is [
    | inl e ↦ record { founds = live.founds; state = state_of v; reads = whole-read e }
    | inr told ↦ record { founds = told.front; state = told.state; reads = told.read }
  ]

  -- the tokens given are laid in the bytes taken, up to what is open
  pub live-laid : UpTo h.taken live.lexemes (state_of v)
  live-laid = elim live.seen_is [
    | inl e ↦ read_laid h.taken live.founds live.lexemes (state_of v) (whole-read e) live.mean
    | inr told ↦ (nothing, laid-to-end h.taken live.lexemes (handed-laid told), told.start_is)
  ]

  pub live-within : pending_of v ≤ v.statement_limit → IsLaidWithin v.statement_limit (pending_of v) h
  live-within l =
      let u = live-laid in
      record {
        lexemes = live.lexemes;
        tail = u.0;
        laid = laid-up-to h.taken live.lexemes u.0 u.1 (tail-is (state_of v) u.0 u.2);
        given_are = live.given_are;
        statements_within = live.statements_within;
        pending_is = let s = live.statement_is in let n = size-is (state_of v) u.0 u.2 in omega arith;
        pending_within = l;
      }

  pub live-pending : IsPendingBehind h (pending_of v)
  live-pending =
      let u = live-laid in
      let pending : IsPending h.taken (pending_of v) = record {
        lexemes = live.lexemes;
        tail = u.0;
        laid = laid-up-to h.taken live.lexemes u.0 u.1 (tail-is (state_of v) u.0 u.2);
        pending_is = let s = live.statement_is in let n = size-is (state_of v) u.0 u.2 in omega arith;
      } in
      (pending, live.given_are)

  pub live-few : length h.given ≤ length h.taken
  live-few =
      let u = live-laid in
      let few = laid-few live.lexemes h.taken (tail_bytes u.0) u.1 in
      let same = ap length (sym live.given_are) ∙ length-tokens live.lexemes in
      omega arith

  goes-on : (rest : List ℕ) → (more : List ℕ) × (looked_at h ++ rest ≡ h.taken ++ more) × BeginsWithSeen h.seen more
  goes-on rest = at h.seen
    where
      at : (seen : Option ℕ) → (more : List ℕ) × ((h.taken ++ elim seen [ None ↦ [] | Some b ↦ b ∷ [] ]) ++ rest ≡ h.taken ++ more) × BeginsWithSeen seen more
      at None = (rest, ap (λ (x : List ℕ). x ++ rest) (append-nil h.taken), tt)
      at (Some b) = (b ∷ rest, append_assoc h.taken (b ∷ []) rest, refl)

  pub live-first : AreGivenFirst h
  live-first rest tokens laid =
      let on = goes-on rest in
      let found = laid_read laid.lexemes (looked_at h ++ rest) laid.laid in
      let all = all_tokens-after live.founds (rest_of v on.0) found.0 (sym (ap all_tokens (ap (λ (x : List ℕ). lex start x) on.1 ∙ live.reads on.0 on.2)) ∙ found.1) in
      let first = tokens-first live.founds all.0 live.lexemes laid.lexemes live.mean (subst (λ (x : List SizedToken). MeanAll x laid.lexemes) all.2 found.2) in
      (first.0, sym laid.tokens_are ∙ (first.1 ∙ ap (λ (x : List Token). x ++ first.0) live.given_are))

  -- what is found of the bytes taken is of the tokens given
  read-of : (answer : Answer) → lex start h.taken ≡ answer → (rest : List SizedToken) × (live.founds ≡ answer.given ++ rest)
  read-of answer q = elim live.seen_is [
    | inl e ↦ ([], sym (append-nil answer.given ∙ ap (λ (x : Answer). x.given) (sym q ∙ whole-read e)))
    | inr told ↦ (record { found = told.last; size = told.state.size } ∷ [], told.founds_are ∙ ap (λ (x : List SizedToken). x ++ record { found = told.last; size = told.state.size } ∷ []) (ap (λ (x : Answer). x.given) (sym told.read ∙ q)))
  ]

  pub live-at_once : AreGivenAtOnce h
  live-at_once front rest tokens last q laid whole =
      let list = split-last laid.lexemes tokens last laid.tokens_are in
      let run = front-run list.0 list.1 front rest (subst (λ (x : List Lexeme). LaidAs front x) list.2 laid.laid) (subst IsWholeAtOnce (sym list.3) whole) in
      let got = read-of (after run.0 (lex start rest)) (ap (λ (x : List ℕ). lex start x) q ∙ run.2) in
      let founds : live.founds ≡ run.0 ++ ((lex start rest).given ++ got.0) = got.1 ∙ append_assoc run.0 (lex start rest).given got.0 in
      let first = tokens-first run.0 ((lex start rest).given ++ got.0) (list.0 ++ list.1 ∷ []) live.lexemes run.1 (subst (λ (x : List SizedToken). MeanAll x live.lexemes) founds live.mean) in
      (first.0, sym live.given_are ∙ (first.1 ∙ ap (λ (x : List Token). x ++ first.0) (ap tokens_in (sym list.2) ∙ laid.tokens_are)))
