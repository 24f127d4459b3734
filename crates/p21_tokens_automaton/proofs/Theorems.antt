-- The two theorems that join the reading to the tokens laid in bytes, and what follows of them.
use Rattle.std.proofs.Common.{◌≡◌, ◌≢◌, ℕ, pos, ◌+◌, List, [], ◌∷◌, ◌++◌, ◌⊎◌, inl, inr, length, length-append, refl, sym, ap, ◌∙◌, subst, append_assoc, append-nil, Some, arith}
use Rattle.std.proofs.lemmas.Bool.{ne_eqb}
use Rattle.p21_spec_exchange.specs.Token.{Token, begin, finish, keyword, user_keyword, name, whole, real, text, item, bits, left, right, comma, semicolon, equals, dollar, star, Spells, MayFollow, HasNoExponent, IsWholeAtOnce}
use Rattle.p21_spec_exchange.specs.Laying.{Lexeme, LaidAs, Laid, tokens_in}
use Rattle.p21_spec_exchange.specs.Pending.{Tail, nothing, unfinished, slash, open_comment, tail_bytes, tail_size, IsKnownWhole, IsTail, LaidUpTo}
use Rattle.p21_tokens_automaton.specs.Meaning.{MeanAll, found_of}
use Rattle.p21_tokens_automaton.specs.Reading.{State, start, skip, Answer, without_tokens, open_at, before, SizedToken, ended_token, all_tokens, lex}
use Rattle.p21_tokens_automaton.specs.Step.{advance}
use Rattle.p21_tokens_automaton.specs.declared.mode.Action.TheVariants.{End}
use Rattle.p21_tokens_automaton.specs.declared.mode.Mode.TheVariants.{Text}
use Rattle.p21_tokens_automaton.specs.declared.mode.TextMode.TheVariants as text_mode
use Rattle.p21_tokens_automaton.specs.declared.mode.Single.TheVariants as single
use Rattle.p21_tokens_automaton.proofs.Complete.{laid-read}
use Rattle.p21_tokens_automaton.proofs.Fits.{StepFits}
use Rattle.p21_spec_basics.specs.Digits.{IsDigit}
use Rattle.p21_spec_exchange.specs.Number.{Decimal, RealForm}
use Rattle.p21_tokens_automaton.proofs.Once.{means-once, spells-means}
use Rattle.p21_tokens_automaton.proofs.Sound.{LaidTo, TailIs, UpTo, read, read-laid}
use Rattle.p21_tokens_automaton.proofs.Steps.{lex-nil, lex-skip, lex-end}
use Rattle.p21_tokens_automaton.proofs.TextRuns.{text-run}
use Rattle.p21_tokens_automaton.proofs.TextSound.{text-fits, text-ends}
use Rattle.p21_tokens_automaton.proofs.TokenRuns.{token-readings, item-run, bits-run, single-run, waits-form}
use Rattle.p21_tokens_automaton.proofs.TokenSound.{first-fits, mode-fits, mode-ends}
use Rattle.p21_tokens_automaton.proofs.Waits.{Waits, IsGiven}

waits-text : (characters spelling : List ℕ) → Spells (text characters) spelling → Waits (text characters) spelling
waits-text characters spelling s = record {
  state = record { mode = Text text_mode.Apostrophe; pending_bytes = []; characters = characters; size = length s.inside + 2 };
  reaches = λ rest.
      ap (λ (x : List ℕ). lex start (x ++ rest)) s.bytes_are ∙ (lex-skip start (Text text_mode.Inside) 39 ((s.inside ++ (39 ∷ [])) ++ rest) refl
      ∙ (ap (λ (x : List ℕ). lex (skip start (Text text_mode.Inside)) x) (append_assoc s.inside (39 ∷ []) rest) ∙ text-run s.inside characters rest s.encodes));
  ended_is = refl;
  size_is = let p = length-append s.inside (39 ∷ []) in let q = ap length s.bytes_are in omega arith;
  ends = λ b n. rw (ne_eqb b 39 n) refl;
}

pub readings : (token : Token) (spelling : List ℕ) → Spells token spelling → Waits token spelling ⊎ IsGiven token spelling
readings = token-readings waits-text

-- complete: the tokens laid in bytes are found
pub laid_read : (lexemes : List Lexeme) (bytes : List ℕ) → LaidAs bytes lexemes → (founds : List SizedToken) × (all_tokens (lex start bytes) ≡ Some founds) × MeanAll founds lexemes
laid_read = laid-read readings spells-means

-- sound: the tokens found are laid in the bytes
pub read_laid : (bytes : List ℕ) (founds : List SizedToken) (lexemes : List Lexeme) (e : State) → lex start bytes ≡ read founds e → MeanAll founds lexemes → UpTo bytes lexemes e
read_laid = read-laid first-fits (mode-fits text-fits) (mode-ends text-ends)

-- ---- the tail

pub given-at-once : (token : Token) (spelling : List ℕ) → Spells token spelling → IsWholeAtOnce token → IsGiven token spelling
given-at-once (item word) spelling s h = record { run = item-run word spelling s }
given-at-once (bits value) spelling s h = record { run = bits-run value spelling s }
given-at-once left spelling s h = record { run = single-run single.Left spelling s }
given-at-once right spelling s h = record { run = single-run single.Right spelling s }
given-at-once comma spelling s h = record { run = single-run single.Comma spelling s }
given-at-once semicolon spelling s h = record { run = single-run single.Semicolon spelling s }
given-at-once equals spelling s h = record { run = single-run single.Equals spelling s }
given-at-once dollar spelling s h = record { run = single-run single.Dollar spelling s }
given-at-once star spelling s h = record { run = single-run single.Star spelling s }
given-at-once begin spelling s h = absurd h
given-at-once finish spelling s h = absurd h
given-at-once (keyword word) spelling s h = absurd h
given-at-once (user_keyword word) spelling s h = absurd h
given-at-once (name n) spelling s h = absurd h
given-at-once (whole z) spelling s h = absurd h
given-at-once (real d) spelling s h = absurd h
given-at-once (text characters) spelling s h = absurd h

not-given : (x : SizedToken) (a : Answer) (e : State) → before x a ≡ without_tokens (open_at e) → ⊥
not-given x a e r = let p : x ∷ a.given ≡ [] = ap (λ (y : Answer). y.given) r in cc

gives : (token : Token) (spelling rest : List ℕ) (e : State) → Spells token spelling → IsKnownWhole token spelling rest → lex start (spelling ++ rest) ≡ without_tokens (open_at e) → ⊥
gives token spelling [] e s k r = not-given _ _ e (sym ((given-at-once token spelling s k).run []) ∙ r)
gives token spelling (b ∷ rest) e s k r = elim (readings token spelling s) [
  | inl w ↦ not-given _ _ e (sym (w.reaches (b ∷ rest) ∙ lex-end w.state (found_of token spelling) b rest (w.ends b k) w.ended_is) ∙ r)
  | inr g ↦ not-given _ _ e (sym (g.run (b ∷ rest)) ∙ r)
]

pub tail-is : (e : State) (tail : Tail) → TailIs e tail → IsTail tail
tail-is e nothing t = tt
tail-is e slash t = tt
tail-is e (open_comment inside) t = t.1
tail-is e (unfinished bytes) t = record {
  first = t.3;
  not_whole = λ token spelling rest q s k. gives token spelling rest e s k (ap (λ (x : List ℕ). lex start x) (sym q) ∙ t.2);
}

pub same-open : (s e : State) → without_tokens (open_at s) ≡ without_tokens (open_at e) → s ≡ e
same-open s e q = let p : open_at s ≡ open_at e = ap (λ (a : Answer). a.ending) q in cc

same-waits : (e : State) (bytes : List ℕ) → TailIs e (unfinished bytes) → (token : Token) → (w : Waits token bytes) → w.state ≡ e
same-waits e bytes t token w = same-open w.state e (sym (lex-nil w.state) ∙ (sym (w.reaches []) ∙ (ap (λ (x : List ℕ). lex start x) (append-nil bytes) ∙ t.2)))

-- a byte that may follow the token which the tail spells ends it
pub tail-ends : (e : State) (bytes : List ℕ) → TailIs e (unfinished bytes) → (token : Token) (byte : ℕ) → Spells token bytes → MayFollow token bytes byte → (advance e.mode byte ≡ End) × (ended_token e ≡ Some (found_of token bytes))
tail-ends e bytes t token byte s f = elim (readings token bytes s) [
  | inl w ↦ subst (λ (x : State). (advance x.mode byte ≡ End) × (ended_token x ≡ Some (found_of token bytes))) (same-waits e bytes t token w) (w.ends byte f, w.ended_is)
  | inr g ↦ absurd (not-given _ _ e (sym (g.run []) ∙ (ap (λ (x : List ℕ). lex start x) (append-nil bytes) ∙ t.2)))
]

-- a byte that no real goes on with ends one, in range or not
pub form-ends : (e : State) (bytes : List ℕ) (byte : ℕ) → TailIs e (unfinished bytes) → RealForm bytes → ¬ IsDigit byte → (HasNoExponent bytes → byte ≢ 69) → advance e.mode byte ≡ End
form-ends e bytes byte t form n m =
    let d : Decimal = record { significand = pos 0; exponent = pos 0 } in
    let w = waits-form d bytes form in
    subst (λ (x : State). advance x.mode byte ≡ End) (same-waits e bytes t (real d) w) (w.ends byte (n, m))

-- the end of a real is found as one, in range or not
pub form-found : (e : State) (bytes : List ℕ) → TailIs e (unfinished bytes) → RealForm bytes → ended_token e ≡ Some (found_of (real (record { significand = pos 0; exponent = pos 0 })) bytes)
form-found e bytes t form =
    let d : Decimal = record { significand = pos 0; exponent = pos 0 } in
    let w = waits-form d bytes form in
    subst (λ (x : State). ended_token x ≡ Some (found_of (real d) bytes)) (same-waits e bytes t (real d) w) w.ended_is

-- what a byte does behind an unfinished token
pub steps-on : (e : State) (bytes : List ℕ) (byte : ℕ) → TailIs e (unfinished bytes) → StepFits e.mode e.pending_bytes e.characters bytes byte (advance e.mode byte)
steps-on e bytes byte t = mode-fits text-fits e.mode byte e.pending_bytes e.characters bytes t.0

pub laid-up-to : (bytes : List ℕ) (lexemes : List Lexeme) (tail : Tail) → LaidTo bytes lexemes (tail_bytes tail) → IsTail tail → LaidUpTo bytes lexemes tail
laid-up-to bytes [] tail l t = (l.0, l.1, l.2, t)
laid-up-to bytes (x ∷ lexemes) tail l t = (l.0, l.1, l.2, l.3, l.4, l.5, l.6, l.7, laid-up-to l.2 lexemes tail l.8 t)

pub size-is : (e : State) (tail : Tail) → TailIs e tail → e.size ≡ tail_size tail
size-is e nothing t = ap (λ (s : State). s.size) t
size-is e slash t = ap (λ (s : State). s.size) t
size-is e (open_comment inside) t = elim t.0 [ inl q ↦ ap (λ (s : State). s.size) q | inr q ↦ ap (λ (s : State). s.size) q ]
size-is e (unfinished bytes) t = t.1

-- ---- laid to the end of the bytes

pub laid-whole : (bytes : List ℕ) (lexemes : List Lexeme) → LaidTo bytes lexemes [] → LaidAs bytes lexemes
laid-whole bytes [] l = subst (λ (x : List ℕ). LaidAs x []) (sym (l.1 ∙ append-nil l.0)) l.2
laid-whole bytes (x ∷ lexemes) l = (l.0, l.1, l.2, l.3, l.4, l.5, l.6, l.7, laid-whole l.2 lexemes l.8)

pub laid-last : (bytes tail : List ℕ) (lexemes : List Lexeme) (last : Lexeme) → LaidTo bytes lexemes tail → Spells last.token tail → last.size ≡ length tail → LaidAs bytes (lexemes ++ last ∷ [])
laid-last bytes tail [] last l s n = (l.0, tail, [], l.1 ∙ ap (λ (x : List ℕ). l.0 ++ x) (sym (append-nil tail)), l.2, s, n, tt, ([], tt, refl))
laid-last bytes tail (x ∷ lexemes) last l s n = (l.0, l.1, l.2, l.3, l.4, l.5, l.6, l.7, laid-last l.2 tail lexemes last l.8 s n)

-- ---- one meaning

pub same-tokens : (founds : List SizedToken) (ls ms : List Lexeme) → MeanAll founds ls → MeanAll founds ms → tokens_in ls ≡ tokens_in ms
same-tokens [] [] [] p q = refl
same-tokens [] [] (m ∷ ms) p q = absurd q
same-tokens [] (l ∷ ls) ms p q = absurd p
same-tokens (x ∷ founds) [] ms p q = absurd p
same-tokens (x ∷ founds) (l ∷ ls) [] p q = absurd q
same-tokens (x ∷ founds) (l ∷ ls) (m ∷ ms) p q =
    let first = means-once x.found l.token m.token p.0 q.0 in
    let rest = same-tokens founds ls ms p.2 q.2 in
    ap (λ (t : Token). t ∷ tokens_in ls) first ∙ ap (λ (ts : List Token). m.token ∷ ts) rest

-- the tokens of what is found in front come first
pub tokens-first : (founds more : List SizedToken) (ls ms : List Lexeme) → MeanAll founds ls → MeanAll (founds ++ more) ms → (rest : List Token) × (tokens_in ms ≡ tokens_in ls ++ rest)
tokens-first [] more [] ms p q = (tokens_in ms, refl)
tokens-first [] more (l ∷ ls) ms p q = absurd p
tokens-first (x ∷ founds) more [] ms p q = absurd p
tokens-first (x ∷ founds) more (l ∷ ls) [] p q = absurd q
tokens-first (x ∷ founds) more (l ∷ ls) (m ∷ ms) p q =
    let first = means-once x.found l.token m.token p.0 q.0 in
    let rest = tokens-first founds more ls ms p.2 q.2 in
    (rest.0, ap (λ (t : Token). t ∷ tokens_in ms) (sym first) ∙ ap (λ (ts : List Token). l.token ∷ ts) rest.1)

-- bytes have one laying
pub one-laying : (bytes : List ℕ) (tokens others : List Token) → Laid bytes tokens → Laid bytes others → tokens ≡ others
one-laying bytes tokens others l m =
    let p = laid_read l.lexemes bytes l.laid in
    let q = laid_read m.lexemes bytes m.laid in
    let same : p.0 ≡ q.0 = let e : Some p.0 ≡ Some q.0 = sym p.1 ∙ q.1 in cc in
    sym l.tokens_are ∙ same-tokens q.0 l.lexemes m.lexemes (subst (λ (x : List SizedToken). MeanAll x l.lexemes) same p.2) q.2 ∙ m.tokens_are
