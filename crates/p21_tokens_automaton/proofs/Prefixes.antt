-- Fronts of bytes: the token that their end leaves, how many tokens they have, and those that need no byte behind them.
use Rattle.std.proofs.Common.{◌≡◌, ℕ, ◌≤◌, ◌<◌, List, [], ◌∷◌, ◌++◌, inl, inr, length, length-append, refl, sym, ap, ◌∙◌, subst, append_assoc, Option, Some, None, arith}
use Rattle.p21_spec_exchange.specs.Token.{Token, begin, finish, keyword, user_keyword, name, whole, real, text, item, bits, left, right, comma, semicolon, equals, dollar, star, Spells, IsFollowed, IsWholeAtOnce}
use Rattle.p21_spec_exchange.specs.Keyword.{IsKeyword}
use Rattle.p21_spec_exchange.specs.Number.{sign_bytes, exponent_bytes}
use Rattle.p21_spec_exchange.specs.Laying.{Lexeme, LaidAs}
use Rattle.p21_spec_exchange.specs.Pending.{Tail, nothing, unfinished, slash, open_comment, tail_bytes}
use Rattle.p21_tokens_automaton.specs.Meaning.{Means, MeanAll, found_of}
use Rattle.p21_tokens_automaton.specs.Reading.{State, start, Answer, before, after, FoundToken, SizedToken, ended_token, all_tokens, lex}
use Rattle.p21_tokens_automaton.proofs.Gaps.{gap, gap-run}
use Rattle.p21_tokens_automaton.proofs.Once.{spells-means}
use Rattle.p21_tokens_automaton.proofs.Sound.{LaidTo, TailIs, UpTo}
use Rattle.p21_tokens_automaton.proofs.Steps.{lex-end, lex-nil}
use Rattle.p21_tokens_automaton.proofs.TextSound.{text-ends}
use Rattle.p21_tokens_automaton.proofs.Theorems.{laid_read, readings, given-at-once, laid-last}
use Rattle.p21_tokens_automaton.proofs.TokenSound.{mode-ends}
use Rattle.p21_tokens_automaton.specs.declared.mode.Mode.TheVariants.{Slash, Comment, Star}

-- ---- the token that the end of the bytes leaves

not-ended_token : (e s : State) (f : FoundToken) → e ≡ s → ended_token s ≡ None → ended_token e ≡ Some f → ⊥
not-ended_token e s f q n r = let clash : (let o : Option FoundToken = None in o) ≡ Some f = sym n ∙ (ap ended_token (sym q) ∙ r) in cc

pub ended_token-laid : (bytes : List ℕ) (lexemes : List Lexeme) (e : State) (f : FoundToken) (last : Lexeme) → UpTo bytes lexemes e → ended_token e ≡ Some f → Means f last.token → last.size ≡ e.size → LaidAs bytes (lexemes ++ last ∷ [])
ended_token-laid bytes lexemes e f last u r m n = by_tail u.0 u.1 u.2
  where
    by_tail : (tail : Tail) → LaidTo bytes lexemes (tail_bytes tail) → TailIs e tail → LaidAs bytes (lexemes ++ last ∷ [])
    by_tail nothing l t = absurd (not-ended_token e start f t refl r)
    by_tail slash l t = absurd (not-ended_token e (gap Slash) f t refl r)
    by_tail (open_comment inside) l t = elim t.0 [ inl q ↦ absurd (not-ended_token e (gap Comment) f q refl r) | inr q ↦ absurd (not-ended_token e (gap Star) f q refl r) ]
    by_tail (unfinished u) l t = laid-last bytes u lexemes last l (mode-ends text-ends e.mode e.pending_bytes e.characters u t.0 f last.token r m) (n ∙ t.1)

-- ---- no more tokens than bytes

word-some : (word : List ℕ) → IsKeyword word → 0 < length word
word-some [] k = absurd k
word-some (b ∷ word) k = omega arith

pub spelling-some : (token : Token) (spelling : List ℕ) → Spells token spelling → 0 < length spelling
spelling-some begin s h = let l = ap length h in omega arith
spelling-some finish s h = let l = ap length h in omega arith
spelling-some (keyword word) s h = subst (λ (x : List ℕ). 0 < length x) (sym h.0) (word-some word h.1)
spelling-some (user_keyword word) s h = let l = ap length h.0 in omega arith
spelling-some (name n) s h = let l = ap length h.form.bytes_are in omega arith
spelling-some (whole z) s h = let l = ap length h.bytes_are in let k = length-append (sign_bytes h.sign) h.digits in let d = h.some_digits in omega arith
spelling-some (real d) s h = let f = h.form in let l = ap length f.bytes_are in let k = length-append (sign_bytes f.sign) (f.whole ++ (46 ∷ (f.fraction ++ exponent_bytes f.power))) in let m = length-append f.whole (46 ∷ (f.fraction ++ exponent_bytes f.power)) in let d = f.some_digits in omega arith
spelling-some (text characters) s h = let l = ap length h.bytes_are in omega arith
spelling-some (item word) s h = let l = ap length h.0 in omega arith
spelling-some (bits value) s h = let l = ap length h.bytes_are in omega arith
spelling-some left s h = let l = ap length h in omega arith
spelling-some right s h = let l = ap length h in omega arith
spelling-some comma s h = let l = ap length h in omega arith
spelling-some semicolon s h = let l = ap length h in omega arith
spelling-some equals s h = let l = ap length h in omega arith
spelling-some dollar s h = let l = ap length h in omega arith
spelling-some star s h = let l = ap length h in omega arith

pub laid-few : (lexemes : List Lexeme) (bytes tail : List ℕ) → LaidTo bytes lexemes tail → length lexemes ≤ length bytes
laid-few [] bytes tail l = omega arith
laid-few (x ∷ lexemes) bytes tail l =
    let rest = laid-few lexemes l.2 tail l.8 in
    let some = spelling-some x.token l.1 l.5 in
    let sum = ap length l.3 in
    let one = length-append l.0 (l.1 ++ l.2) in
    let two = length-append l.1 l.2 in
    omega arith

-- ---- fronts whose last token needs no byte behind it

end-is-some : (lexemes : List Lexeme) (last : Lexeme) → MeanAll [] (lexemes ++ last ∷ []) → ⊥
end-is-some [] last m = m
end-is-some (x ∷ lexemes) last m = m

not-empty : (lexemes : List Lexeme) (last : Lexeme) → LaidAs [] (lexemes ++ last ∷ []) → ⊥
not-empty lexemes last l =
    let read = laid_read (lexemes ++ last ∷ []) [] l in
    end-is-some lexemes last (subst (λ (x : List SizedToken). MeanAll x (lexemes ++ last ∷ [])) (nothing-read read.0 read.1) read.2)
  where
    nothing-read : (founds : List SizedToken) → all_tokens (lex start []) ≡ Some founds → founds ≡ []
    nothing-read founds e = let same : Some [] ≡ Some founds = sym (ap all_tokens (lex-nil start)) ∙ e in cc

-- a spelling and a byte behind it
one-token : (token : Token) (spelling : List ℕ) (b : ℕ) (rest : List ℕ) → Spells token spelling → IsFollowed token spelling (b ∷ rest) → lex start (spelling ++ b ∷ rest) ≡ before (record { found = found_of token spelling; size = length spelling }) (lex start (b ∷ rest))
one-token token spelling b rest s f = elim (readings token spelling s) [
  | inl w ↦ w.reaches (b ∷ rest) ∙ (lex-end w.state (found_of token spelling) b rest (w.ends b f) w.ended_is
      ∙ ap (λ (n : ℕ). before (record { found = found_of token spelling; size = n }) (lex start (b ∷ rest))) w.size_is)
  | inr g ↦ g.run (b ∷ rest)
]

one-more : (token : Token) (spelling rest more : List ℕ) (lexemes : List Lexeme) (last : Lexeme) → Spells token spelling → IsFollowed token spelling rest → LaidAs rest (lexemes ++ last ∷ []) → lex start (spelling ++ (rest ++ more)) ≡ before (record { found = found_of token spelling; size = length spelling }) (lex start (rest ++ more))
one-more token spelling [] more lexemes last s f l = absurd (not-empty lexemes last l)
one-more token spelling (b ∷ rest) more lexemes last s f l = one-token token spelling b (rest ++ more) s f

regroup : (gap spelling rest more : List ℕ) → (gap ++ (spelling ++ rest)) ++ more ≡ gap ++ (spelling ++ (rest ++ more))
regroup gap spelling rest more = append_assoc gap (spelling ++ rest) more ∙ ap (λ (x : List ℕ). gap ++ x) (append_assoc spelling rest more)

pub front-run : (lexemes : List Lexeme) (last : Lexeme) (bytes more : List ℕ) → LaidAs bytes (lexemes ++ last ∷ []) → IsWholeAtOnce last.token → (founds : List SizedToken) × MeanAll founds (lexemes ++ last ∷ []) × (lex start (bytes ++ more) ≡ after founds (lex start more))
front-run [] last bytes more l w = (
  record { found = found_of last.token l.1; size = length l.1 } ∷ [],
  (spells-means last.token l.1 l.5, l.6, tt),
  ap (λ (x : List ℕ). lex start (x ++ more)) l.3 ∙ (ap (λ (x : List ℕ). lex start x) (regroup l.0 l.1 l.2 more) ∙ (gap-run l.0 l.4 (l.1 ++ (l.2 ++ more))
      ∙ ((given-at-once last.token l.1 l.5 w).run (l.2 ++ more) ∙ ap (λ (a : Answer). before (record { found = found_of last.token l.1; size = length l.1 }) a) (gap-run l.2 l.8 more)))),
)
front-run (x ∷ lexemes) last bytes more l w =
    let rest = front-run lexemes last l.2 more l.8 w in (
      record { found = found_of x.token l.1; size = length l.1 } ∷ rest.0,
      (spells-means x.token l.1 l.5, l.6, rest.1),
      ap (λ (y : List ℕ). lex start (y ++ more)) l.3 ∙ (ap (λ (y : List ℕ). lex start y) (regroup l.0 l.1 l.2 more) ∙ (gap-run l.0 l.4 (l.1 ++ (l.2 ++ more))
          ∙ (one-more x.token l.1 l.2 more lexemes last l.5 l.7 l.8 ∙ ap (λ (a : Answer). before (record { found = found_of x.token l.1; size = length l.1 }) a) rest.2))),
    )
