-- The end of the bytes, a lexer that has refused, and separators, which need no memory.
use Rattle.std.proofs.Common.{◌≡◌, ℕ, zero, suc, ◌<◌, true, List, [], ◌∷◌, ◌++◌, inl, inr, length, take, refl, sym, ap, ◌∙◌, subst, append-nil, arith, Option, Some, None, Result, Ok, Err}
use Rattle.std.specs.List.{slice_get}
use Rattle.std.proofs.lemmas.Bool.Decides.{nat_tests}
use Rattle.p21_spec_exchange.specs.Laying.{Lexeme, LaidAs, Laid}
use Rattle.p21_spec_exchange.specs.Pending.{Tail, nothing, unfinished, slash, open_comment, tail_bytes, BeginsWithNoSeparator}
use Rattle.p21_spec_exchange.specs.Separator.{blank, IsSeparator}
use Rattle.p21_spec_exchange.specs.Token.{Token}
use Rattle.p21_tokens_automaton.proofs.Fits.{ModeFits}
use Rattle.p21_tokens_automaton.proofs.Prefixes.{ended_token-laid}
use Rattle.p21_tokens_automaton.proofs.Gaps.{gap}
use Rattle.p21_tokens_automaton.proofs.Sound.{LaidTo, TailIs, UpTo}
use Rattle.p21_tokens_automaton.proofs.Theorems.{laid_read, laid-whole, laid-up-to, tail-is}
use Rattle.p21_scan.specs.Bytes.{is_blank}
use Rattle.p21_tokens_automaton.specs.Meaning.{MeanAll}
use Rattle.p21_tokens_automaton.specs.Reading.{State, start, SizedToken, ended_token_in, tokens_at_end, with_last_tokens, all_tokens}
use Rattle.p21_tokens_automaton.specs.declared.mode.Mode.{Mode}
use Rattle.p21_tokens_automaton.specs.declared.mode.Mode.TheVariants.{Between, Slash, Comment, Star}
use Rattle.p21_tokens.proofs.Extending.{stands-live}
use Rattle.p21_tokens.proofs.Naming.{names-end}
use Rattle.p21_tokens.proofs.Following.{tokens-append, in-parts, live-laid, whole-read}
use Rattle.p21_tokens.specs.Fault.{IsOfTheEnd}
use Rattle.p21_tokens.specs.Held.{Held, pending_of, state_of}
use Rattle.p21_tokens.specs.Histories.{TokenHistory, Stands, IsLive, NextGives, FinishGives, FinishNamesFault, AreSeparators}
use Rattle.p21_tokens.specs.Steps.{is_gap, AreBlank, IsFaultAtEnd, MayNotEnd, ReadsEnd, RefusesAt}
use Rattle.p21_tokens.specs.Token.{meant}
use Rattle.p21_tokens.specs.declared.fault.TokenFault.{TokenFault}
use Rattle.p21_tokens.specs.declared.fault.TokenFault.TheVariants as fault
use Rattle.p21_tokens.specs.declared.token.Token.{Token as TokenRead}

-- ---- the end of the bytes

mode-of : (e s : State) → e ≡ s → e.mode ≡ s.mode
mode-of e s q = ap (λ (x : State). x.mode) q

-- between tokens nothing is open
between-laid : (bytes : List ℕ) (ls : List Lexeme) (e : State) → UpTo bytes ls e → e.mode ≡ Between → LaidAs bytes ls
between-laid bytes ls e u m = by_tail u.0 u.1 u.2
  where
    by_tail : (tail : Tail) → LaidTo bytes ls (tail_bytes tail) → TailIs e tail → LaidAs bytes ls
    by_tail nothing l t = laid-whole bytes ls l
    by_tail slash l t = let clash : Between ≡ Slash = sym m ∙ mode-of e (gap Slash) t in absurd cc
    by_tail (open_comment inside) l t = elim t.0 [
      | inl q ↦ let clash : Between ≡ Comment = sym m ∙ mode-of e (gap Comment) q in absurd cc
      | inr q ↦ let clash : Between ≡ Star = sym m ∙ mode-of e (gap Star) q in absurd cc
    ]
    by_tail (unfinished u) l t = absurd (subst (λ (k : Mode). ModeFits k e.pending_bytes e.characters u) m t.0)

finish-dead : (v : Held) (h : TokenHistory) (live : IsLive v h) → h.seen ≡ None → MayNotEnd v.mode v.pending_bytes v.characters → (tokens : List Token) → Laid h.taken tokens → ⊥
finish-dead v h live e n tokens laid =
    let found = laid_read laid.lexemes h.taken laid.laid in
    at (tokens_at_end (ended_token_in v.mode v.pending_bytes v.characters) v.mode v.size) refl found.0 (sym (ap all_tokens (whole-read v h live e)) ∙ found.1) found.2
  where
    at : (o : Option (List SizedToken)) → tokens_at_end (ended_token_in v.mode v.pending_bytes v.characters) v.mode v.size ≡ o → (founds : List SizedToken) → with_last_tokens live.founds o ≡ Some founds → MeanAll founds laid.lexemes → ⊥
    at None q founds a m = cc
    at (Some last) q founds a m =
        let same : live.founds ++ last ≡ founds = cc in
        let parts = in-parts live.founds last laid.lexemes (subst (λ (x : List SizedToken). MeanAll x laid.lexemes) (sym same) m) in
        n v.size last parts.behind q parts.mean_behind

finish-err : (v : Held) (x : TokenFault) → v.refused ≡ None → IsOfTheEnd x → MayNotEnd v.mode v.pending_bytes v.characters → FinishGives v (Err x)
finish-err v fault.NoMemory r f n = tt
finish-err v _ r f n = λ h s e _. (f, finish-dead v h (stands-live v h s r).1 e n)

pub finish-gives : (v : Held) (result : Result (Option TokenRead) TokenFault) → v.refused ≡ None → ReadsEnd v.mode v.pending_bytes v.characters result → FinishGives v result
finish-gives v (Ok None) r e = λ h s seen.
    let now = stands-live v h s r in
    let live = now.1 in
    (now.0, record { lexemes = live.lexemes; tokens_are = live.given_are ∙ sym (append-nil h.given); laid = between-laid h.taken live.lexemes (state_of v) (live-laid v h live) e })
finish-gives v (Ok (Some token)) r e = λ h s seen.
    let now = stands-live v h s r in
    let live = now.1 in
    let last : Lexeme = record { token = meant token; size = v.size } in (
      now.0,
      record {
        lexemes = live.lexemes ++ last ∷ [];
        tokens_are = tokens-append live.lexemes (last ∷ []) ∙ ap (λ (x : List Token). x ++ meant token ∷ []) live.given_are;
        laid = ended_token-laid h.taken live.lexemes (state_of v) e.0 last (live-laid v h live) e.1 e.2 refl;
      },
    )
finish-gives v (Err fault.NoMemory) r e = tt
finish-gives v (Err x) r e = finish-err v x r e.0 e.1

-- which fault it has
finish-wrong : (v : Held) (x : TokenFault) → v.refused ≡ None → MayNotEnd v.mode v.pending_bytes v.characters → IsFaultAtEnd v.mode v.pending_bytes v.characters x → FinishNamesFault v (Err x)
finish-wrong v fault.NoMemory r n named = tt
finish-wrong v x r n named = λ h s seen alive.
    let live = (stands-live v h s r).1 in
    let u = live-laid v h live in
    record {
      lexemes = live.lexemes;
      tail = u.0;
      laid = laid-up-to h.taken live.lexemes u.0 u.1 (tail-is (state_of v) u.0 u.2);
      given_are = live.given_are;
      names = names-end v x n named u.0 u.2;
    }

pub finish-names : (v : Held) (result : Result (Option TokenRead) TokenFault) → v.refused ≡ None → ReadsEnd v.mode v.pending_bytes v.characters result → FinishNamesFault v result
finish-names v (Ok last) r e = tt
finish-names v (Err fault.NoMemory) r e = tt
finish-names v (Err x) r e = finish-wrong v x r e.1 e.2

-- ---- a lexer that has refused

pub refused-none : (v : Held) (h : TokenHistory) (x : TokenFault) → v.refused ≡ Some x → Stands v h → h.refusal ≡ None → ⊥
unfolding Stands
refused-none v h x e s alive = let p : v.refused ≡ None = s.0 ∙ alive in cc

pub next-refused : (v w : Held) (piece : List ℕ) (x : TokenFault) → v.refused ≡ Some x → NextGives v piece (Err x) w
next-refused v w piece x e h s o alive = absurd (refused-none v h x e s alive)

pub finish-refused : (v : Held) (x : TokenFault) → v.refused ≡ Some x → FinishGives v (Err x)
finish-refused v fault.NoMemory e = tt
finish-refused v _ e = λ h s _ alive. absurd (refused-none v h _ e s alive)

pub names-refused : (v : Held) (x : TokenFault) → v.refused ≡ Some x → FinishNamesFault v (Err x)
names-refused v fault.NoMemory e = tt
names-refused v _ e = λ h s _ alive. absurd (refused-none v h _ e s alive)

-- ---- separators need no memory

-- nothing is open where nothing is pending
gap-is : (v : Held) (h : TokenHistory) → Stands v h → v.refused ≡ None → pending_of v ≡ 0 → is_gap v.mode ≡ true
gap-is v h s r p = let u = live-laid v h (stands-live v h s r).1 in by_tail u.0 u.2
  where
    some-bytes : (u : List ℕ) → BeginsWithNoSeparator u → 0 < length u
    some-bytes [] b = absurd b
    some-bytes (x ∷ u) b = omega arith

    by_tail : (tail : Tail) → TailIs (state_of v) tail → is_gap v.mode ≡ true
    by_tail nothing t = ap is_gap (mode-of (state_of v) start t)
    by_tail slash t = ap is_gap (mode-of (state_of v) (gap Slash) t)
    by_tail (open_comment inside) t = elim t.0 [ inl q ↦ ap is_gap (mode-of (state_of v) (gap Comment) q) | inr q ↦ ap is_gap (mode-of (state_of v) (gap Star) q) ]
    by_tail (unfinished u) t = let l = some-bytes u t.3 in let n = t.1 in absurd (omega arith)

blank-byte : (b : ℕ) → IsSeparator (blank b) → is_blank b ≡ true
blank-byte b (inl h) = grind (arith, nat_tests)
blank-byte b (inr h) = grind (arith, nat_tests)

blank-front : (piece : List ℕ) (count : ℕ) → AreSeparators piece → AreBlank (take count piece)
blank-front [] zero s = tt
blank-front [] (suc count) s = tt
blank-front (b ∷ piece) zero s = tt
blank-front (b ∷ piece) (suc count) s = (blank-byte b s.0, blank-front piece count s.1)

blank-at : (piece : List ℕ) (count byte : ℕ) → AreSeparators piece → slice_get piece count ≡ Some byte → is_blank byte ≡ true
blank-at [] count byte s e = absurd cc
blank-at (b ∷ piece) zero byte s e = let same : b ≡ byte = cc in subst (λ (x : ℕ). is_blank x ≡ true) same (blank-byte b s.0)
blank-at (b ∷ piece) (suc count) byte s e = blank-at piece count byte s.1 e

pub no-memory-asked : (v w : Held) (h : TokenHistory) (piece : List ℕ) (x : TokenFault) → Stands v h → v.refused ≡ None → pending_of v ≡ 0 → AreSeparators piece → RefusesAt v piece x w → x ≡ fault.NoMemory → ⊥
no-memory-asked v w h piece x s r p a e q =
    let refuses = subst (λ (y : TokenFault). RefusesAt v piece y w) q e in
    refuses.7 (refuses.5.gap (gap-is v h s r p) (blank-front piece refuses.1 a)) (blank-at piece refuses.1 refuses.2 a refuses.3)

pub fault-of-err : (x y : TokenFault) → ◌≡◌ {A = Result (ℕ × Option TokenRead) TokenFault} (Err x) (Err y) → x ≡ y
fault-of-err x y e = cc
