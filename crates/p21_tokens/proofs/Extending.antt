-- What a call adds to the history that a lexer stands for.
use Rattle.std.proofs.Common.{◌≡◌, ◌≢◌, ℕ, zero, suc, ◌+◌, ◌≤◌, ◌<◌, Bool, true, false, cond, if◌then◌else◌, eqb, List, [], ◌∷◌, ◌++◌, ◌⊎◌, inl, inr, length, length-append, get_or, take, refl, sym, ap, ◌∙◌, subst, append_assoc, append-nil, arith, Option, Some, None, Ok, Err}
use Rattle.std.specs.List.{slice_get}
use Rattle.std.specs.Option.{option_map}
use Rattle.std.proofs.lemmas.List.{append_cancel_left, length-take-le, take_more}
use Rattle.std.proofs.lemmas.Option.{slice_get-get_or}
use Rattle.std.proofs.Math.Seq.{take-length}
use Rattle.p21_spec_basics.specs.History.{extended, seen_behind, first_refusal, IsOfferedFirst, empty}
use Rattle.p21_spec_exchange.specs.Laying.{Lexeme, Laid, tokens_in, open_bytes, count_behind, AreStatementsWithin}
use Rattle.p21_spec_exchange.specs.Pending.{Tail, nothing, unfinished, slash, open_comment, tail_size, LaidUpTo, IsTokenByte, BeginsWithNoSeparator}
use Rattle.p21_spec_exchange.specs.Token.{Token}
use Rattle.p21_tokens_automaton.proofs.Complete.{all_tokens-after}
use Rattle.p21_tokens_automaton.proofs.Sound.{TailIs, UpTo, FirstFits}
use Rattle.p21_tokens_automaton.proofs.Fits.{ModeFits, StepFits}
use Rattle.p21_tokens_automaton.proofs.TokenSound.{first-fits}
use Rattle.p21_tokens_automaton.proofs.Steps.{lex-nil}
use Rattle.p21_tokens_automaton.proofs.Theorems.{laid_read, tail-is, tail-ends, form-ends, steps-on, laid-up-to, size-is, one-laying, same-tokens}
use Rattle.std.proofs.lemmas.Bool.{cond_both}
use Rattle.std.proofs.lemmas.Bool.Decides.{nat_tests}
use Rattle.p21_scan.specs.Bytes.{is_blank, is_upper}
use Rattle.p21_tokens_automaton.specs.Step.{advance, punctuation_action}
use Rattle.p21_tokens_automaton.specs.declared.mode.Action.{Action}
use Rattle.p21_tokens_automaton.specs.declared.mode.Action.TheVariants.{Pass, Keep, End, Refuse}
use Rattle.p21_tokens_automaton.specs.declared.mode.Mode.{Mode}
use Rattle.p21_tokens_automaton.specs.declared.mode.Mode.TheVariants.{Between, Slash, Comment, Star, Number, Word}
use Rattle.p21_tokens_automaton.specs.declared.mode.NumberMode.TheVariants as number_mode
use Rattle.p21_tokens_automaton.specs.declared.mode.WordMode.TheVariants as word_mode
use Rattle.p21_tokens_automaton.specs.declared.mode.Wrong.TheVariants as wrong
use Rattle.p21_tokens_automaton.proofs.Once.{spells-means}
use Rattle.p21_tokens_automaton.specs.Meaning.{MeanAll, Means, found_of}
use Rattle.p21_tokens_automaton.specs.Reading.{State, start, Answer, open_at, after, FoundToken, SizedToken, ended_token, tokens_at_end, with_last_tokens, all_tokens, lex}
use Rattle.p21_tokens.proofs.Stepping.{ended_token-waits, waits-count}
use Rattle.p21_tokens.proofs.Naming.{names-byte}
use Rattle.p21_tokens.proofs.Following.{handed-laid, live-open, whole-read, tokens-append, mean-append, in-parts, open-append, within-append, after-append, after-nothing, live-laid, live-pending, live-within, live-few, live-first, live-at_once}
use Rattle.p21_tokens.specs.Held.{Held, IsWithin, pending_of, state_of}
use Rattle.p21_tokens.specs.Histories.{TokenHistory, call_of, refused_call, Stands, IsLive, IsHandedOver, BeginsWithSeen, AreDead, IsStatementFull, IsNoToken, EndsOutOfRange, NamesFaultAtByte, IsOpen, IsPendingBehind, EndsAtOnce, TakesNoMore, Answers, Refuses, NextGives}
use Rattle.p21_tokens.specs.Fault.{IsOfForm, IsOfLimit}
use Rattle.p21_tokens.specs.Steps.{rest_of, is_slash, is_token_byte, IsDeadAt, SameCounts, SameLimits, TakesRun, GivesToken, HandsOverToken, RefusesByte, EndsNoMeantToken, IsFaultAt, IsInLimits, Scanned, ScansToken, gave, handed, Scans, RefusesAt}
use Rattle.p21_tokens.specs.Token.{meant, waits}
use Rattle.p21_tokens.specs.declared.fault.TokenFault.{TokenFault}
use Rattle.p21_tokens.specs.declared.fault.TokenFault.TheVariants as fault
use Rattle.p21_tokens.specs.declared.token.Token.{Token as TokenRead}
use Rattle.p21_spec_basics.specs.Digits.{is_digit}

-- ---- a new lexer

pub stands-new : (v : Held) → state_of v ≡ start → v.file ≡ 0 → v.statement ≡ 0 → v.refused ≡ None → Stands v empty
unfolding Stands
stands-new v s f n r =
    let live : IsLive v empty = record {
      founds = [];
      lexemes = [];
      mean = tt;
      given_are = refl;
      file_is = f;
      statement_is = n;
      statements_within = tt;
      reads = λ rest _. ap (λ (x : State). lex x rest) (sym s);
      seen_is = inl refl;
    } in
    (r, λ _. live, live-pending v empty live)

-- ---- the byte that was seen

-- what a caller offers goes on with the byte that was seen
goes-front : (seen : Option ℕ) (piece : List ℕ) (count : ℕ) (rest : List ℕ) → IsOfferedFirst seen piece → 0 < count → 0 < length piece → BeginsWithSeen seen (take count piece ++ rest)
goes-front None piece count rest o l m = tt
goes-front (Some x) [] count rest o l m = absurd (omega arith)
goes-front (Some x) (b ∷ piece) zero rest o l m = absurd (omega arith)
goes-front (Some x) (b ∷ piece) (suc count) rest o l m = o

goes-byte : (seen : Option ℕ) (piece : List ℕ) (count byte : ℕ) (rest : List ℕ) → IsOfferedFirst seen piece → slice_get piece count ≡ Some byte → BeginsWithSeen seen (take count piece ++ byte ∷ rest)
goes-byte None piece count byte rest o e = tt
goes-byte (Some x) [] count byte rest o e = absurd cc
goes-byte (Some x) (b ∷ piece) zero byte rest o e = let same : b ≡ byte = cc in sym same ∙ o
goes-byte (Some x) (b ∷ piece) (suc count) byte rest o e = o

goes-whole : (seen : Option ℕ) (bytes rest : List ℕ) → IsOfferedFirst seen bytes → BeginsWithSeen (seen_behind seen bytes None) rest → BeginsWithSeen seen (bytes ++ rest)
goes-whole seen [] rest o g = g
goes-whole None (b ∷ bytes) rest o g = tt
goes-whole (Some x) (b ∷ bytes) rest o g = o

offered-front : (seen : Option ℕ) (piece : List ℕ) (count : ℕ) → IsOfferedFirst seen piece → IsOfferedFirst seen (take count piece)
offered-front None piece count o = tt
offered-front (Some x) [] zero o = tt
offered-front (Some x) [] (suc count) o = tt
offered-front (Some x) (b ∷ piece) zero o = tt
offered-front (Some x) (b ∷ piece) (suc count) o = o

some-length : (piece : List ℕ) (count byte : ℕ) → slice_get piece count ≡ Some byte → count < length piece
some-length [] count byte e = absurd cc
some-length (b ∷ piece) zero byte e = omega arith
some-length (b ∷ piece) (suc count) byte e = let l = some-length piece count byte e in omega arith

pub take-one : (piece : List ℕ) (count byte : ℕ) → slice_get piece count ≡ Some byte → take (count + 1) piece ≡ take count piece ++ byte ∷ []
take-one piece count byte e =
    let l = some-length piece count byte e in
    let same : get_or piece count 0 ≡ byte = let p : Some (get_or piece count 0) ≡ Some byte = sym (slice_get-get_or piece count 0 l) ∙ e in cc in
    take_more piece count 0 l ∙ ap (λ (x : ℕ). take count piece ++ x ∷ []) same

-- a run of no bytes leaves the state
same-state : (v w : Held) → TakesRun v [] w → state_of v ≡ state_of w
same-state v w r =
    let e : open_at (state_of v) ≡ open_at (state_of w) = ap (λ (a : Answer). a.ending) (sym (lex-nil (state_of v)) ∙ (r.rest_is [] ∙ lex-nil (state_of w))) in cc

-- ---- bytes that gave no token

live-none : (v w : Held) (h : TokenHistory) (bytes : List ℕ) → IsLive v h → IsOfferedFirst h.seen bytes → SameLimits v w → TakesRun v bytes w → IsLive w (record { taken = h.taken ++ bytes; seen = seen_behind h.seen bytes None; given = h.given ++ []; refusal = None })
live-none v w h bytes live o s r = record {
  founds = live.founds;
  lexemes = live.lexemes;
  mean = live.mean;
  given_are = live.given_are ∙ sym (append-nil h.given);
  file_is = omega (arith, r.file_is, live.file_is, length-append h.taken bytes);
  statement_is = r.statement_is ∙ live.statement_is;
  statements_within = subst (λ (n : ℕ). AreStatementsWithin n 0 live.lexemes) (sym s.statement_limit) live.statements_within;
  reads = λ rest g.
      ap (λ (x : List ℕ). lex start x) (append_assoc h.taken bytes rest) ∙ (live.reads (bytes ++ rest) (goes-whole h.seen bytes rest o g) ∙ ap (λ (a : Answer). after live.founds a) (r.rest_is rest));
  seen_is = by_bytes bytes r;
}
  where
    by_bytes : (xs : List ℕ) → TakesRun v xs w → (seen_behind h.seen xs None ≡ None) ⊎ IsHandedOver w (h.taken ++ xs) live.founds
    by_bytes [] r = elim live.seen_is [
      | inl e ↦ inl e
      | inr told ↦ inr (record {
        start_is = sym (same-state v w r) ∙ told.start_is;
        front = told.front;
        state = told.state;
        last = told.last;
        founds_are = told.founds_are;
        ended_is = told.ended_is;
        read = ap (λ (x : List ℕ). lex start x) (append-nil h.taken) ∙ told.read;
      })
    ]
    by_bytes (b ∷ xs) r = inl refl

-- ---- a token

live-gave : (v middle w : Held) (h : TokenHistory) (bytes front : List ℕ) (byte : ℕ) (token : Token) → IsLive v h → ((rest : List ℕ) → BeginsWithSeen h.seen (bytes ++ rest)) → SameLimits v middle → SameLimits middle w → TakesRun v front middle → GivesToken middle byte token w → bytes ≡ front ++ byte ∷ []
    → IsLive w (record { taken = h.taken ++ bytes; seen = None; given = h.given ++ token ∷ []; refusal = None })
live-gave v middle w h bytes front byte token live goes s t r g e =
    let lexeme : Lexeme = record { token = token; size = g.found.size } in
    let limit : w.statement_limit ≡ v.statement_limit = t.statement_limit ∙ s.statement_limit in
    let before_it : middle.statement ≡ open_bytes 0 live.lexemes = r.statement_is ∙ live.statement_is in
    let room : open_bytes 0 live.lexemes + g.found.size ≤ v.statement_limit = let k = g.within in let m = s.statement_limit in omega arith in
    record {
      founds = live.founds ++ g.found ∷ [];
      lexemes = live.lexemes ++ lexeme ∷ [];
      mean = mean-append live.founds (g.found ∷ []) live.lexemes (lexeme ∷ []) live.mean (g.means, refl, tt);
      given_are = tokens-append live.lexemes (lexeme ∷ []) ∙ ap (λ (x : List Token). x ++ token ∷ []) live.given_are;
      file_is =
          let p = length-append h.taken bytes in
          let q = ap length e in
          let k = length-append front (byte ∷ []) in
          omega (arith, g.file_is, r.file_is, live.file_is);
      statement_is = g.statement_is ∙ (ap (λ (n : ℕ). count_behind n lexeme) before_it ∙ sym (open-append 0 live.lexemes (lexeme ∷ [])));
      statements_within = subst (λ (n : ℕ). AreStatementsWithin n 0 (live.lexemes ++ lexeme ∷ [])) (sym limit) (within-append v.statement_limit 0 live.lexemes (lexeme ∷ []) live.statements_within (room, tt));
      reads = λ rest _.
          ap (λ (x : List ℕ). lex start x) (append_assoc h.taken bytes rest) ∙ (live.reads (bytes ++ rest) (goes rest)
          ∙ (ap (λ (x : List ℕ). after live.founds (rest_of v x)) (ap (λ (x : List ℕ). x ++ rest) e ∙ append_assoc front (byte ∷ []) rest)
          ∙ (ap (λ (a : Answer). after live.founds a) (r.rest_is (byte ∷ rest) ∙ g.rest_is rest) ∙ sym (after-append live.founds (g.found ∷ []) (rest_of w rest)))));
      seen_is = inl refl;
    }

live-handed : (v middle w : Held) (h : TokenHistory) (bytes : List ℕ) (byte : ℕ) (token : Token) → IsLive v h → ((rest : List ℕ) → BeginsWithSeen h.seen (bytes ++ byte ∷ rest)) → (0 < length bytes → BeginsWithSeen h.seen bytes) → SameLimits v middle → SameLimits middle w → TakesRun v bytes middle → HandsOverToken middle byte token w
    → IsLive w (record { taken = h.taken ++ bytes; seen = Some byte; given = h.given ++ token ∷ []; refusal = None })
live-handed v middle w h bytes byte token live goes all-on s t r g =
    let found : SizedToken = record { found = g.found; size = middle.size } in
    let lexeme : Lexeme = record { token = token; size = middle.size } in
    let limit : w.statement_limit ≡ v.statement_limit = t.statement_limit ∙ s.statement_limit in
    let before_it : middle.statement ≡ open_bytes 0 live.lexemes = r.statement_is ∙ live.statement_is in
    let room : open_bytes 0 live.lexemes + middle.size ≤ v.statement_limit = let k = g.within in let m = s.statement_limit in omega arith in
    record {
      founds = live.founds ++ found ∷ [];
      lexemes = live.lexemes ++ lexeme ∷ [];
      mean = mean-append live.founds (found ∷ []) live.lexemes (lexeme ∷ []) live.mean (g.means, refl, tt);
      given_are = tokens-append live.lexemes (lexeme ∷ []) ∙ ap (λ (x : List Token). x ++ token ∷ []) live.given_are;
      file_is = let p = length-append h.taken bytes in omega (arith, g.file_is, r.file_is, live.file_is);
      statement_is = g.statement_is ∙ (ap (λ (n : ℕ). n + middle.size) before_it ∙ (sym (waits-count token middle.size (open_bytes 0 live.lexemes) g.waited) ∙ sym (open-append 0 live.lexemes (lexeme ∷ []))));
      statements_within = subst (λ (n : ℕ). AreStatementsWithin n 0 (live.lexemes ++ lexeme ∷ [])) (sym limit) (within-append v.statement_limit 0 live.lexemes (lexeme ∷ []) live.statements_within (room, tt));
      reads = λ rest on. reads-on rest on;
      seen_is = inr (record {
        start_is = g.start_is;
        front = live.founds;
        state = state_of middle;
        last = g.found;
        founds_are = refl;
        ended_is = g.ended_is;
        read = read-all;
      });
    }
  where
    reads-on : (rest : List ℕ) → BeginsWithSeen (Some byte) rest → lex start ((h.taken ++ bytes) ++ rest) ≡ after (live.founds ++ record { found = g.found; size = middle.size } ∷ []) (rest_of w rest)
    reads-on [] on = absurd on
    reads-on (b ∷ rest) on =
        let same : b ≡ byte = on in
        subst (λ (c : ℕ). lex start ((h.taken ++ bytes) ++ (c ∷ rest)) ≡ after (live.founds ++ record { found = g.found; size = middle.size } ∷ []) (rest_of w (c ∷ rest))) (sym same)
        (ap (λ (x : List ℕ). lex start x) (append_assoc h.taken bytes (byte ∷ rest)) ∙ (live.reads (bytes ++ byte ∷ rest) (goes rest)
        ∙ (ap (λ (a : Answer). after live.founds a) (r.rest_is (byte ∷ rest) ∙ g.rest_is rest) ∙ sym (after-append live.founds (record { found = g.found; size = middle.size } ∷ []) (rest_of w (byte ∷ rest))))))

    -- a reading of all the bytes taken
    by_reads : BeginsWithSeen h.seen bytes → lex start (h.taken ++ bytes) ≡ record { given = live.founds; ending = open_at (state_of middle) }
    by_reads on =
        live.reads bytes on ∙ (ap (λ (x : List ℕ). after live.founds (rest_of v x)) (sym (append-nil bytes)) ∙ (ap (λ (a : Answer). after live.founds a) (r.rest_is [] ∙ lex-nil (state_of middle)) ∙ after-nothing live.founds (state_of middle)))

    no-end : state_of middle ≡ start → ⊥
    no-end q = let clash : (let o : Option FoundToken = None in o) ≡ Some g.found = ap ended_token (sym q) ∙ g.ended_is in cc

    by_bytes : (xs : List ℕ) → xs ≡ bytes → lex start (h.taken ++ bytes) ≡ record { given = live.founds; ending = open_at (state_of middle) }
    by_bytes [] q = elim live.seen_is [
      | inl e ↦ by_reads (subst (λ (o : Option ℕ). BeginsWithSeen o bytes) (sym e) tt)
      | inr told ↦ absurd (no-end (sym (same-state v middle (subst (λ (x : List ℕ). TakesRun v x middle) (sym q) r)) ∙ told.start_is))
    ]
    by_bytes (b ∷ xs) q = by_reads (all-on (let l = ap length q in omega arith))

    read-all : lex start (h.taken ++ bytes) ≡ record { given = live.founds; ending = open_at (state_of middle) }
    read-all = by_bytes bytes refl

-- ---- a call that answered

positive : (piece : List ℕ) (count : ℕ) → 0 < length (take count piece) → (0 < count) × (0 < length piece)
positive [] zero l = absurd (omega arith)
positive [] (suc count) l = absurd (omega arith)
positive (b ∷ piece) zero l = absurd (omega arith)
positive (b ∷ piece) (suc count) l = (omega arith, omega arith)

limits-between : (u v w : Held) → SameLimits u v → SameLimits u w → SameLimits v w
limits-between u v w a b = record { statement_limit = b.statement_limit ∙ sym a.statement_limit; file_limit = b.file_limit ∙ sym a.file_limit; refused = b.refused ∙ sym a.refused }

waits-cond : (token : Token) (piece : List ℕ) (count : ℕ) (b : Bool) → waits token ≡ b → (call_of piece count (Some token)).seen ≡ cond b (slice_get piece count) None
waits-cond token piece count b e = ap (λ (x : Bool). cond x (slice_get piece count) None) e

-- a history by its parts
same-history : (taken other : List ℕ) (seen sight : Option ℕ) (given tokens : List Token) (refusal fault : Option TokenFault) → taken ≡ other → seen ≡ sight → given ≡ tokens → refusal ≡ fault
    → (let h : TokenHistory = record { taken = taken; seen = seen; given = given; refusal = refusal } in h) ≡ record { taken = other; seen = sight; given = tokens; refusal = fault }
same-history taken other seen sight given tokens refusal fault p q r s = rw (p, q, r, s)

seen-some : (seen : Option ℕ) (bytes : List ℕ) (byte : ℕ) → seen_behind seen bytes (Some byte) ≡ Some byte
seen-some seen [] byte = refl
seen-some seen (b ∷ bytes) byte = refl

seen-none : (seen : Option ℕ) (bytes front : List ℕ) (byte : ℕ) → bytes ≡ front ++ byte ∷ [] → seen_behind seen bytes None ≡ None
seen-none seen [] [] byte e = cc
seen-none seen [] (b ∷ front) byte e = cc
seen-none seen (b ∷ bytes) front byte e = refl

-- what the lexer is live for behind a scan
live-scanned : (v w : Held) (h : TokenHistory) (piece : List ℕ) (count : ℕ) (token : Option Token) → IsLive v h → h.refusal ≡ None → IsOfferedFirst h.seen piece → SameLimits v w → Scanned v piece count token w → IsLive w (extended h (call_of piece count token))
live-scanned v w h piece count None live alive o s r =
    let whole-piece : take count piece ≡ piece = ap (λ (k : ℕ). take k piece) r.0 ∙ take-length piece in
    let here = live-none v w h piece live o s r.1 in
    subst (λ (x : TokenHistory). IsLive w x)
    (same-history _ _ _ _ _ _ _ _ (ap (λ (x : List ℕ). h.taken ++ x) (sym whole-piece)) (ap (λ (x : List ℕ). seen_behind h.seen x None) (sym whole-piece)) refl (sym (ap (λ (x : Option TokenFault). first_refusal x None) alive))) here
live-scanned v w h piece count (Some token) live alive o s r = by_scan (take count piece) refl r.1
  where
    by_scan : (bytes : List ℕ) → bytes ≡ take count piece → ScansToken v bytes (slice_get piece count) token w → IsLive w (extended h (call_of piece count (Some token)))
    by_scan bytes q (gave middle front byte same run g e) =
        let long : 0 < length bytes = let l = ap length e in let k = length-append front (byte ∷ []) in omega arith in
        let filled = positive piece count (subst (λ (x : List ℕ). 0 < length x) q long) in
        let here = live-gave v middle w h bytes front byte token live (λ rest. subst (λ (x : List ℕ). BeginsWithSeen h.seen (x ++ rest)) (sym q) (goes-front h.seen piece count rest o filled.0 filled.1)) same (limits-between v middle w same s) run g e in
        subst (λ (x : TokenHistory). IsLive w x)
        (same-history _ _ _ _ _ _ _ _ (ap (λ (x : List ℕ). h.taken ++ x) q)
        (sym (ap (λ (x : Option ℕ). seen_behind h.seen (take count piece) x) (waits-cond token piece count false g.at_once) ∙ seen-none h.seen (take count piece) front byte (sym q ∙ e))) refl (sym (ap (λ (x : Option TokenFault). first_refusal x None) alive))) here
    by_scan bytes q (handed middle byte same run g e) =
        let here = live-handed v middle w h bytes byte token live (λ rest. subst (λ (x : List ℕ). BeginsWithSeen h.seen (x ++ byte ∷ rest)) (sym q) (goes-byte h.seen piece count byte rest o e))
        (λ long. let filled = positive piece count (subst (λ (x : List ℕ). 0 < length x) q long) in subst (λ (x : List ℕ). BeginsWithSeen h.seen x) (append-nil (take count piece) ∙ sym q) (goes-front h.seen piece count [] o filled.0 filled.1)) same (limits-between v middle w same s) run g in
        subst (λ (x : TokenHistory). IsLive w x)
        (same-history _ _ _ _ _ _ _ _ (ap (λ (x : List ℕ). h.taken ++ x) q)
        (sym (ap (λ (x : Option ℕ). seen_behind h.seen (take count piece) x) (waits-cond token piece count true g.waited ∙ e) ∙ seen-some h.seen (take count piece) byte)) refl (sym (ap (λ (x : Option TokenFault). first_refusal x None) alive))) here

pub stands-live : (v : Held) (h : TokenHistory) → Stands v h → v.refused ≡ None → (h.refusal ≡ None) × IsLive v h
unfolding Stands
stands-live v h s e = let alive = sym s.0 ∙ e in (alive, s.1 alive)

-- ---- the last byte of a token that does not wait

offered-part : (seen : Option ℕ) (front rest : List ℕ) → IsOfferedFirst seen (front ++ rest) → IsOfferedFirst seen front
offered-part None front rest o = tt
offered-part (Some x) [] rest o = tt
offered-part (Some x) (b ∷ front) rest o = o

one-more : (tokens : List Token) (token : Token) → tokens ≡ tokens ++ token ∷ [] → ⊥
one-more tokens token e = let l = ap length e in let k = length-append tokens (token ∷ []) in omega arith

-- what the end leaves waits
tokens_at_end-waits : (s : State) (o : Option FoundToken) → ended_token s ≡ o → (last : List SizedToken) (lexemes : List Lexeme) (token : Token) → tokens_at_end o s.mode s.size ≡ Some last → MeanAll last lexemes → tokens_in lexemes ≡ token ∷ [] → waits token ≡ true
tokens_at_end-waits s (Some found) e last lexemes token q m t = by_list lexemes (subst (λ (x : List SizedToken). MeanAll x lexemes) (sym (some-list q)) m) t
  where
    some-list : Some (record { found = found; size = s.size } ∷ []) ≡ Some last → (record { found = found; size = s.size } ∷ []) ≡ last
    some-list q = cc

    by_list : (ls : List Lexeme) → MeanAll (record { found = found; size = s.size } ∷ []) ls → tokens_in ls ≡ token ∷ [] → waits token ≡ true
    by_list [] m t = absurd m
    by_list (l ∷ []) m t = let same : l.token ≡ token = cc in ended_token-waits s.mode s.pending_bytes s.characters found e token (subst (λ (x : Token). Means found x) same m.0)
    by_list (l ∷ k ∷ ls) m t = absurd m.2
tokens_at_end-waits s None e last lexemes token q m t = by_mode s.mode q
  where
    by_list : (ls : List Lexeme) → MeanAll [] ls → tokens_in ls ≡ token ∷ [] → waits token ≡ true
    by_list [] m t = absurd cc
    by_list (l ∷ ls) m t = absurd m

    some-list : Some [] ≡ Some last → [] ≡ last
    some-list q = cc

    by_mode : (mode : Mode) → tokens_at_end None mode s.size ≡ Some last → waits token ≡ true
    by_mode Between q = by_list lexemes (subst (λ (x : List SizedToken). MeanAll x lexemes) (sym (some-list q)) m) t
    by_mode _ q = absurd cc

-- what is given behind the bytes, and a token, are not laid in them where the token does not wait
live-unlaid : (v : Held) (h : TokenHistory) (token : Token) → IsLive v h → waits token ≡ false → Laid h.taken (h.given ++ token ∷ []) → ⊥
live-unlaid v h token live waits_not laid = elim live.seen_is [
  | inl e ↦ by_end e
  | inr told ↦ one-more h.given token (one-laying h.taken h.given (h.given ++ token ∷ []) (record { lexemes = live.lexemes; tokens_are = live.given_are; laid = handed-laid v h live told }) laid)
]
  where
    by_end : h.seen ≡ None → ⊥
    by_end e =
        let found = laid_read laid.lexemes h.taken laid.laid in
        at (tokens_at_end (ended_token (state_of v)) v.mode v.size) refl found.0 (sym (ap all_tokens (whole-read v h live e)) ∙ found.1) found.2
      where
        at : (o : Option (List SizedToken)) → tokens_at_end (ended_token (state_of v)) v.mode v.size ≡ o → (founds : List SizedToken) → with_last_tokens live.founds o ≡ Some founds → MeanAll founds laid.lexemes → ⊥
        at None q founds a m = cc
        at (Some last) q founds a m =
            let same : live.founds ++ last ≡ founds = cc in
            let parts = in-parts live.founds last laid.lexemes (subst (λ (x : List SizedToken). MeanAll x laid.lexemes) (sym same) m) in
            let front : tokens_in parts.front ≡ h.given = same-tokens live.founds parts.front live.lexemes parts.mean_front live.mean ∙ live.given_are in
            let all : h.given ++ tokens_in parts.behind ≡ h.given ++ token ∷ [] =
            ap (λ (x : List Token). x ++ tokens_in parts.behind) (sym front) ∙ (sym (tokens-append parts.front parts.behind) ∙ (sym (ap tokens_in parts.lexemes_are) ∙ laid.tokens_are)) in
            let yes = tokens_at_end-waits (state_of v) (ended_token (state_of v)) refl last parts.behind token q parts.mean_behind (append_cancel_left h.given (tokens_in parts.behind) (token ∷ []) all) in
            let clash : true ≡ false = sym yes ∙ waits_not in cc

pub next-takes_no_more : (v w : Held) (piece : List ℕ) (count : ℕ) (token : TokenRead) → v.refused ≡ None → Scans v piece (Ok (count, Some token)) w → TakesNoMore v piece (Ok (count, Some token))
next-takes_no_more v w piece count token r s h stands alive o waits_not = by_scan s.1.1
  where
    live : IsLive v h
    live = (stands-live v h stands r).1

    by_scan : ScansToken v (take count piece) (slice_get piece count) (meant token) w → EndsAtOnce (h.taken ++ take count piece) (h.given ++ meant token ∷ [])
    by_scan (gave middle front byte same run g e) =
        let offered = offered-part h.seen front (byte ∷ []) (subst (IsOfferedFirst h.seen) e (offered-front h.seen piece count o)) in
        let here = live-none v middle h front live offered same run in
        record {
          front = h.taken ++ front;
          byte = byte;
          taken_are = ap (λ (x : List ℕ). h.taken ++ x) e ∙ sym (append_assoc h.taken front (byte ∷ []));
          unlaid = λ laid. live-unlaid middle _ (meant token) here waits_not (subst (λ (x : List Token). Laid (h.taken ++ front) (x ++ meant token ∷ [])) (sym (append-nil h.given)) laid);
        }
    by_scan (handed middle byte same run g e) = let clash : true ≡ false = sym g.waited ∙ waits_not in absurd cc

-- a live lexer's answers
pub answers-live : (v : Held) (h : TokenHistory) → Stands v h → h.refusal ≡ None → IsLive v h → pending_of v ≤ v.statement_limit → v.file ≤ v.file_limit → Answers v h
answers-live v h s alive live p f = record {
  stands = s;
  given_first = live-first v h live;
  given_at_once = live-at_once v h live;
  given_few = live-few v h live;
  file_within = let e = live.file_is in omega arith;
  laid_within = live-within v h live p;
}

call-refusal : (piece : List ℕ) (count : ℕ) (token : Option Token) (h : TokenHistory) → h.refusal ≡ None → (extended h (call_of piece count token)).refusal ≡ None
call-refusal piece count None h e = ap (λ (x : Option TokenFault). first_refusal x None) e
call-refusal piece count (Some token) h e = ap (λ (x : Option TokenFault). first_refusal x None) e

pub next-answers : (v w : Held) (piece : List ℕ) (answer : ℕ × Option TokenRead) → v.refused ≡ None → pending_of w ≤ w.statement_limit → w.file ≤ w.file_limit → Scans v piece (Ok answer) w → NextGives v piece (Ok answer) w
unfolding Stands
next-answers v w piece answer r p f s h stands o =
    let now = stands-live v h stands r in
    let live = live-scanned v w h piece answer.0 (option_map meant answer.1) now.1 now.0 o s.0 s.1 in
    let alive = call-refusal piece answer.0 (option_map meant answer.1) h now.0 in
    answers-live w _ (s.0.refused ∙ (r ∙ sym alive), λ _. live, live-pending w _ live) alive live p f

-- ---- a call that refused

between-byte : (byte : ℕ) → is_token_byte Between (advance Between byte) ≡ true → BeginsWithNoSeparator (byte ∷ [])
between-byte byte c =
    let no_blank = at (is_blank byte) refl in
    (no_blank.0, no_blank.1, λ e. let clash : false ≡ true = sym (ap (λ (b : ℕ). is_token_byte Between (advance Between b)) e) ∙ c in cc)
  where
    classes : is_blank byte ≡ false → (32 < byte) × (byte ≢ 127)
    classes e = (grind (arith, nat_tests), λ q. grind (arith, nat_tests))

    at : (b : Bool) → is_blank byte ≡ b → (32 < byte) × (byte ≢ 127)
    at true e = let clash : false ≡ true = sym (ap (λ (x : Bool). is_token_byte Between (cond x (Pass Between) (cond (is_digit byte) (Keep (Number number_mode.Whole)) (cond (is_upper byte) (Keep (Word word_mode.Keyword)) (punctuation_action byte))))) e) ∙ c in cc
    at false e = classes e

slash-byte : (byte : ℕ) → is_token_byte Slash (advance Slash byte) ≡ true → ⊥
slash-byte byte = cond_both (eqb byte 42) (Pass Comment) (Refuse wrong.Byte) (λ a. is_token_byte Slash a ≡ true → ⊥) (λ _ c. absurd cc) (λ _ c. absurd cc)

comment-byte : (byte : ℕ) → is_token_byte Comment (advance Comment byte) ≡ true → ⊥
comment-byte byte = cond_both (eqb byte 42) (Pass Star) (Pass Comment) (λ a. is_token_byte Comment a ≡ true → ⊥) (λ _ c. absurd cc) (λ _ c. absurd cc)

star-byte : (byte : ℕ) → is_token_byte Star (advance Star byte) ≡ true → ⊥
star-byte byte = cond_both (eqb byte 47) (Pass Between) (cond (eqb byte 42) (Pass Star) (Pass Comment)) (λ a. is_token_byte Star a ≡ true → ⊥) (λ _ c. absurd cc)
    (λ _. cond_both (eqb byte 42) (Pass Star) (Pass Comment) (λ a. is_token_byte Star a ≡ true → ⊥) (λ _ c. absurd cc) (λ _ c. absurd cc))

-- a byte that counts, by what stands in front of it
counts-byte : (v : Held) (tail : Tail) (byte : ℕ) → TailIs (state_of v) tail → is_token_byte v.mode (advance v.mode byte) ≡ true → advance v.mode byte ≢ End → IsTokenByte tail byte
counts-byte v nothing byte t c n = between-byte byte (ap (λ (s : State). is_token_byte s.mode (advance s.mode byte)) (sym t) ∙ c)
counts-byte v (unfinished bytes) byte t c n = λ token s f. absurd (n (tail-ends (state_of v) bytes t token byte s f).0)
counts-byte v slash byte t c n = slash-byte byte (ap (λ (s : State). is_token_byte s.mode (advance s.mode byte)) (sym t) ∙ c)
counts-byte v (open_comment inside) byte t c n = elim t.0 [
  | inl q ↦ comment-byte byte (ap (λ (s : State). is_token_byte s.mode (advance s.mode byte)) (sym q) ∙ c)
  | inr q ↦ star-byte byte (ap (λ (s : State). is_token_byte s.mode (advance s.mode byte)) (sym q) ∙ c)
]

-- between tokens no byte ends one
between-ends_none : (byte : ℕ) → advance Between byte ≢ End
between-ends_none byte q = subst (FirstFits byte) q (first-fits byte)

-- the tail is within no token
abbrev IsGap : Tail → Type 0
IsGap (unfinished bytes) = ⊥
IsGap other = Unit {0}

gap-ends-none : (v : Held) (tail : Tail) (byte : ℕ) → TailIs (state_of v) tail → IsGap tail → advance v.mode byte ≢ End
gap-ends-none v nothing byte t g q = between-ends_none byte (ap (λ (s : State). advance s.mode byte) (sym t) ∙ q)
gap-ends-none v (unfinished bytes) byte t g q = g
gap-ends-none v slash byte t g q = cond_both (eqb byte 42) (Pass Comment) (Refuse wrong.Byte) (λ a. a ≡ End → ⊥) (λ _ c. absurd cc) (λ _ c. absurd cc) (ap (λ (s : State). advance s.mode byte) (sym t) ∙ q)
gap-ends-none v (open_comment inside) byte t g q = elim t.0 [
  | inl e ↦ cond_both (eqb byte 42) (Pass Star) (Pass Comment) (λ a. a ≡ End → ⊥) (λ _ c. absurd cc) (λ _ c. absurd cc) (ap (λ (s : State). advance s.mode byte) (sym e) ∙ q)
  | inr e ↦ cond_both (eqb byte 47) (Pass Between) (cond (eqb byte 42) (Pass Star) (Pass Comment)) (λ a. a ≡ End → ⊥) (λ _ c. absurd cc)
      (λ _. cond_both (eqb byte 42) (Pass Star) (Pass Comment) (λ a. a ≡ End → ⊥) (λ _ c. absurd cc) (λ _ c. absurd cc)) (ap (λ (s : State). advance s.mode byte) (sym e) ∙ q)
]

-- between tokens a byte that begins no separator counts
between-counts : (byte : ℕ) (a : Action) → FirstFits byte a → BeginsWithNoSeparator (byte ∷ []) → is_token_byte Between a ≡ true
between-counts byte (Pass n) f b = elim f [
  | inl x ↦ elim x.1 [ inl k ↦ absurd (omega (arith, b.0, k)) | inr k ↦ absurd (b.1 k) ]
  | inr x ↦ absurd (b.2 x.1)
]
between-counts byte (Refuse w) f b = refl
between-counts byte _ f b = refl

gap-counts : (v : Held) (tail : Tail) (byte : ℕ) → TailIs (state_of v) tail → IsGap tail → IsTokenByte tail byte → is_token_byte v.mode (advance v.mode byte) ≡ true
gap-counts v nothing byte t g c = ap (λ (s : State). is_token_byte s.mode (advance s.mode byte)) t ∙ between-counts byte (advance Between byte) (first-fits byte) c
gap-counts v (unfinished bytes) byte t g c = absurd g
gap-counts v slash byte t g c = absurd c
gap-counts v (open_comment inside) byte t g c = absurd c

-- within a token each byte counts
no-slash : (m : Mode) (pending_bytes characters front : List ℕ) → ModeFits m pending_bytes characters front → (if is_slash m then false else true) ≡ true
no-slash Slash pending_bytes characters front f = absurd f
no-slash _ pending_bytes characters front f = refl

open-counts : (m : Mode) (pending_bytes characters front : List ℕ) (byte : ℕ) (a : Action) → ModeFits m pending_bytes characters front → StepFits m pending_bytes characters front byte a → is_token_byte m a ≡ true
open-counts m pending_bytes characters front byte (Pass n) f s = absurd s
open-counts m pending_bytes characters front byte (Refuse w) f s = no-slash m pending_bytes characters front f
open-counts m pending_bytes characters front byte _ f s = refl

module _ (v w : Held) (h : TokenHistory) (piece : List ℕ) (live : IsLive v h) (alive : h.refusal ≡ None) (o : IsOfferedFirst h.seen piece) (middle : Held) (count byte : ℕ) (found : slice_get piece count ≡ Some byte) (same : SameLimits v middle) (run : TakesRun v (take count piece) middle) where
  -- the lexer in front of the refused byte
  front-live : IsLive middle (record { taken = h.taken ++ take count piece; seen = seen_behind h.seen (take count piece) None; given = h.given ++ []; refusal = None })
  front-live = live-none v middle h (take count piece) live (offered-front h.seen piece count o) same run

  full : middle.statement_limit ≤ pending_of middle → is_token_byte middle.mode (advance middle.mode byte) ≡ true → advance middle.mode byte ≢ End → IsStatementFull v.statement_limit (h.taken ++ take count piece) byte
  full l c n =
      let u = live-laid middle _ front-live in
      record {
        lexemes = front-live.lexemes;
        tail = u.0;
        laid = laid-up-to (h.taken ++ take count piece) front-live.lexemes u.0 u.1 (tail-is (state_of middle) u.0 u.2);
        full = let i = front-live.statement_is in let k = size-is (state_of middle) u.0 u.2 in let m = same.statement_limit in omega arith;
        counts = counts-byte middle u.0 byte u.2 c n;
      }

  taken-length : length (h.taken ++ take (count + 1) piece) ≡ length h.taken + (count + 1)
  taken-length =
      let l = some-length piece count byte found in
      let p = length-append h.taken (take (count + 1) piece) in
      let q = length-take-le (count + 1) piece (omega arith) in
      omega arith

  middle-file : middle.file ≡ length h.taken + count
  middle-file =
      let l = some-length piece count byte found in
      let q = length-take-le count piece (omega arith) in
      omega (arith, run.file_is, live.file_is)

  dead : IsDeadAt middle (byte ∷ []) → AreDead (h.taken ++ take (count + 1) piece)
  dead d rest tokens laid =
      let read = laid_read laid.lexemes ((h.taken ++ take (count + 1) piece) ++ rest) laid.laid in
      let joined : (h.taken ++ take (count + 1) piece) ++ rest ≡ h.taken ++ (take count piece ++ byte ∷ rest) =
      append_assoc h.taken (take (count + 1) piece) rest ∙ ap (λ (x : List ℕ). h.taken ++ x) (ap (λ (x : List ℕ). x ++ rest) (take-one piece count byte found) ∙ append_assoc (take count piece) (byte ∷ []) rest) in
      let answer : lex start ((h.taken ++ take (count + 1) piece) ++ rest) ≡ after live.founds (rest_of middle (byte ∷ rest)) =
      ap (λ (x : List ℕ). lex start x) joined ∙ (live.reads (take count piece ++ byte ∷ rest) (goes-byte h.seen piece count byte rest o found) ∙ ap (λ (a : Answer). after live.founds a) (run.rest_is (byte ∷ rest))) in
      let all = all_tokens-after live.founds (rest_of middle (byte ∷ rest)) read.0 (sym (ap all_tokens answer) ∙ read.1) in
      let parts = in-parts live.founds all.0 laid.lexemes (subst (λ (x : List SizedToken). MeanAll x laid.lexemes) all.2 read.2) in
      d rest all.0 parts.behind all.1 parts.mean_behind

  ends-none : (x : TokenFault) → RefusesByte middle byte x → x ≢ fault.NoMemory → EndsNoMeantToken middle byte
  ends-none fault.NoMemory r n = absurd (n refl)
  ends-none fault.FileTooLong r n = λ q. absurd (r.1 q)
  ends-none fault.RecordTooLong r n = λ q. absurd (r.2 q)
  ends-none fault.OpenString r n = absurd r
  ends-none fault.OpenComment r n = absurd r
  ends-none fault.NotOneParameter r n = absurd r
  ends-none fault.EndsEarly r n = absurd r
  ends-none fault.BadByte r n = r.1
  ends-none fault.BadDirective r n = r.1
  ends-none fault.BadCodePoint r n = r.1
  ends-none fault.NotUtf8 r n = r.1
  ends-none fault.BadNumber r n = r.1
  ends-none fault.NumberRange r n = r.1
  ends-none fault.BadBinary r n = r.1
  ends-none fault.NameRange r n = r.1
  ends-none fault.BadName r n = r.1
  ends-none (fault.LeftOut absent) r n = r.1

  no-token : (tail : Tail) → TailIs (state_of middle) tail → EndsNoMeantToken middle byte → IsNoToken tail byte
  no-token nothing t n = tt
  no-token (unfinished bytes) t n = λ token s f. let e = tail-ends (state_of middle) bytes t token byte s f in n e.0 (found_of token bytes) token e.1 (spells-means token bytes s)
  no-token slash t n = tt
  no-token (open_comment inside) t n = tt

  -- the bytes in front of it, up to a tail
  abbrev lexemes : List Lexeme
  lexemes = front-live.lexemes

  abbrev before-it : UpTo (h.taken ++ take count piece) front-live.lexemes (state_of middle)
  before-it = live-laid middle _ front-live

  abbrev tail : Tail
  tail = before-it.0

  open-before : IsOpen (h.taken ++ take count piece)
  open-before = live-open middle _ front-live

  pending-before : (why : TokenFault) → IsPendingBehind (extended h (refused_call piece count why)) (pending_of middle)
  pending-before why = live-pending middle _ front-live

  laid : LaidUpTo (h.taken ++ take count piece) lexemes tail
  laid = laid-up-to (h.taken ++ take count piece) front-live.lexemes before-it.0 before-it.1 (tail-is (state_of middle) before-it.0 before-it.2)

  given-are : tokens_in lexemes ≡ h.given
  given-are = front-live.given_are ∙ append-nil h.given

  token-first : (x : TokenFault) → RefusesByte middle byte x → x ≢ fault.NoMemory → IsNoToken tail byte
  token-first x r n = no-token before-it.0 before-it.2 (ends-none x r n)

  ends-at : (tail : Tail) → TailIs (state_of middle) tail → EndsOutOfRange tail byte → advance middle.mode byte ≡ End
  ends-at (unfinished bytes) t o = form-ends (state_of middle) bytes byte t o.0 o.2 o.3
  ends-at nothing t o = absurd o
  ends-at slash t o = absurd o
  ends-at (open_comment inside) t o = absurd o

  ended_token-at : (tail : Tail) → TailIs (state_of middle) tail → EndsNoMeantToken middle byte → advance middle.mode byte ≡ End → EndsOutOfRange tail byte
  ended_token-at (unfinished bytes) t n q = (subst (StepFits middle.mode middle.pending_bytes middle.characters bytes byte) q (steps-on (state_of middle) bytes byte t)).no_token (λ found token e m. n q found token e m)
  ended_token-at nothing t n q = absurd (gap-ends-none middle nothing byte t tt q)
  ended_token-at slash t n q = absurd (gap-ends-none middle slash byte t tt q)
  ended_token-at (open_comment inside) t n q = absurd (gap-ends-none middle (open_comment inside) byte t tt q)

  not-ended_token : (tail : Tail) → TailIs (state_of middle) tail → EndsNoMeantToken middle byte → ¬ EndsOutOfRange tail byte → advance middle.mode byte ≢ End
  not-ended_token tail t n o q = o (ended_token-at tail t n q)

  counts : (tail : Tail) → TailIs (state_of middle) tail → IsTokenByte tail byte → is_token_byte middle.mode (advance middle.mode byte) ≡ true
  counts (unfinished bytes) t c = open-counts middle.mode middle.pending_bytes middle.characters bytes byte (advance middle.mode byte) t.0 (steps-on (state_of middle) bytes byte t)
  counts nothing t c = gap-counts middle nothing byte t tt c
  counts slash t c = gap-counts middle slash byte t tt c
  counts (open_comment inside) t c = gap-counts middle (open_comment inside) byte t tt c

  range-first : (x : TokenFault) → RefusesByte middle byte x → IsOfLimit x → ¬ EndsOutOfRange tail byte
  range-first fault.FileTooLong r l o = r.1 (ends-at before-it.0 before-it.2 o)
  range-first fault.RecordTooLong r l o = r.2 (ends-at before-it.0 before-it.2 o)
  range-first _ r l o = absurd l

  form-at : (x : TokenFault) → RefusesByte middle byte x → IsOfForm x → IsInLimits middle byte × IsFaultAt middle byte (advance middle.mode byte) x
  form-at fault.NoMemory r i = absurd i
  form-at fault.FileTooLong r i = absurd i
  form-at fault.RecordTooLong r i = absurd i
  form-at fault.OpenString r i = absurd r
  form-at fault.OpenComment r i = absurd r
  form-at fault.NotOneParameter r i = absurd r
  form-at fault.EndsEarly r i = absurd r
  form-at fault.BadByte r i = (r.2, r.3)
  form-at fault.BadDirective r i = (r.2, r.3)
  form-at fault.BadCodePoint r i = (r.2, r.3)
  form-at fault.NotUtf8 r i = (r.2, r.3)
  form-at fault.BadNumber r i = (r.2, r.3)
  form-at fault.NumberRange r i = (r.2, r.3)
  form-at fault.BadBinary r i = (r.2, r.3)
  form-at fault.NameRange r i = (r.2, r.3)
  form-at fault.BadName r i = (r.2, r.3)
  form-at (fault.LeftOut absent) r i = (r.2, r.3)

  names : (x : TokenFault) → RefusesByte middle byte x → IsOfForm x → NamesFaultAtByte tail byte x
  names x r i =
      names-byte middle before-it.0 byte x before-it.2 (ends-at before-it.0 before-it.2, ended_token-at before-it.0 before-it.2 (ends-none x r (λ q. subst IsOfForm q i))) (form-at x r i).1

  passes-none : (x : TokenFault) → RefusesByte middle byte x → IsOfForm x → ¬ EndsOutOfRange before-it.0 byte → (middle.file < middle.file_limit) × (is_token_byte middle.mode (advance middle.mode byte) ≡ true → pending_of middle < middle.statement_limit)
  passes-none x r i o = (form-at x r i).0 (not-ended_token before-it.0 before-it.2 (ends-none x r (λ q. subst IsOfForm q i)) o)

  file-first : (x : TokenFault) → RefusesByte middle byte x → IsOfForm x → ¬ EndsOutOfRange tail byte → length (h.taken ++ take count piece) < v.file_limit
  file-first x r i o = let f = (passes-none x r i o).0 in let a = front-live.file_is in let b = same.file_limit in omega arith

  -- what a refusal leaves says how many bytes stand in front of the byte, and that they pass no limit
  file-is : (u : Held) → SameCounts middle u → u.file ≡ length (h.taken ++ take count piece)
  file-is u stays = stays.file ∙ front-live.file_is

  file-within : (u : Held) → SameLimits v u → SameCounts middle u → IsWithin u → length (h.taken ++ take count piece) ≤ v.file_limit
  file-within u limits stays within = let a = front-live.file_is in let b = stays.file in let c = limits.file_limit in let d = within.file in omega arith

  statement-within : (u : Held) → SameLimits v u → SameCounts middle u → IsWithin u → open_bytes 0 lexemes + tail_size tail ≤ v.statement_limit
  statement-within u limits stays within =
      let a = front-live.statement_is in
      let k = size-is (state_of middle) before-it.0 before-it.2 in
      let b = stays.pending in
      let c = limits.statement_limit in
      let d = within.statement in
      omega arith

  statement-first : (x : TokenFault) → RefusesByte middle byte x → IsOfForm x → ¬ EndsOutOfRange tail byte → IsTokenByte tail byte → open_bytes 0 lexemes + tail_size tail < v.statement_limit
  statement-first x r i o c =
      let s = (passes-none x r i o).1 (counts before-it.0 before-it.2 c) in
      let a = front-live.statement_is in let k = size-is (state_of middle) before-it.0 before-it.2 in let m = same.statement_limit in omega arith

  pub refuses-byte : (x : TokenFault) → RefusesByte middle byte x → Refuses v h piece count x
  refuses-byte fault.NoMemory r = tt
  refuses-byte fault.FileTooLong r = let a = taken-length in let b = middle-file in let c = same.file_limit in let d = r.0 in omega arith
  refuses-byte fault.RecordTooLong r = (byte, found, full r.0 r.1 r.2, (let a = taken-length in let b = middle-file in let c = same.file_limit in let d = r.3 in omega arith))
  refuses-byte fault.OpenString r = r
  refuses-byte fault.OpenComment r = r
  refuses-byte fault.NotOneParameter r = r
  refuses-byte fault.EndsEarly r = r
  refuses-byte fault.BadByte r = dead r.0
  refuses-byte fault.BadDirective r = dead r.0
  refuses-byte fault.BadCodePoint r = dead r.0
  refuses-byte fault.NotUtf8 r = dead r.0
  refuses-byte fault.BadNumber r = dead r.0
  refuses-byte fault.NumberRange r = dead r.0
  refuses-byte fault.BadBinary r = dead r.0
  refuses-byte fault.NameRange r = dead r.0
  refuses-byte fault.BadName r = dead r.0
  refuses-byte (fault.LeftOut absent) r = dead r.0

pub next-refuses : (v u w : Held) (piece : List ℕ) (x : TokenFault) → v.refused ≡ None → w.refused ≡ Some x → SameCounts u w → IsWithin u → RefusesAt v piece x u → NextGives v piece (Err x) w
unfolding Stands
next-refuses v u w piece x r e k i s h stands o alive =
    let now = stands-live v h stands r in
    record {
      count = s.1;
      within = some-length piece s.1 s.2 s.3;
      byte = s.2;
      byte_is = s.3;
      is_open = open-before v w h piece now.1 alive o s.0 s.1 s.2 s.3 s.4 s.5;
      file_is = k.file ∙ file-is v w h piece now.1 alive o s.0 s.1 s.2 s.3 s.4 s.5 u s.8;
      file_within = file-within v w h piece now.1 alive o s.0 s.1 s.2 s.3 s.4 s.5 u s.6 s.8 i;
      refuses = refuses-byte v w h piece now.1 alive o s.0 s.1 s.2 s.3 s.4 s.5 x s.7;
      lexemes = lexemes v w h piece now.1 alive o s.0 s.1 s.2 s.3 s.4 s.5;
      tail = tail v w h piece now.1 alive o s.0 s.1 s.2 s.3 s.4 s.5;
      laid = laid v w h piece now.1 alive o s.0 s.1 s.2 s.3 s.4 s.5;
      given_are = given-are v w h piece now.1 alive o s.0 s.1 s.2 s.3 s.4 s.5;
      statement_within = statement-within v w h piece now.1 alive o s.0 s.1 s.2 s.3 s.4 s.5 u s.6 s.8 i;
      token_first = token-first v w h piece now.1 alive o s.0 s.1 s.2 s.3 s.4 s.5 x s.7;
      range_first = range-first v w h piece now.1 alive o s.0 s.1 s.2 s.3 s.4 s.5 x s.7;
      file_first = file-first v w h piece now.1 alive o s.0 s.1 s.2 s.3 s.4 s.5 x s.7;
      statement_first = statement-first v w h piece now.1 alive o s.0 s.1 s.2 s.3 s.4 s.5 x s.7;
      names = names v w h piece now.1 alive o s.0 s.1 s.2 s.3 s.4 s.5 x s.7;
      stands = (
        e ∙ sym (ap (λ (y : Option TokenFault). first_refusal y (Some x)) alive),
        λ q. absurd (not-none x (sym (ap (λ (y : Option TokenFault). first_refusal y (Some x)) alive) ∙ q)),
        subst (λ (n : ℕ). IsPendingBehind (extended h (refused_call piece s.1 x)) n) (sym (k.pending ∙ s.8.pending)) (pending-before v w h piece now.1 alive o s.0 s.1 s.2 s.3 s.4 s.5 x),
      );
    }
  where
    not-none : (x : TokenFault) → Some x ≡ None → ⊥
    not-none x q = cc

pub stands-pending : (v : Held) (h : TokenHistory) → Stands v h → IsPendingBehind h (pending_of v)
unfolding Stands
stands-pending v h s = s.2

-- the tokens given are laid in the bytes taken, up to a tail
pub stands-laid : (v : Held) (h : TokenHistory) → Stands v h → h.refusal ≡ None → (lexemes : List Lexeme) × (tail : Tail) × LaidUpTo h.taken lexemes tail × (tokens_in lexemes ≡ h.given)
unfolding Stands
stands-laid v h s alive =
    let live = s.1 alive in
    let u = live-laid v h live in
    (live.lexemes, u.0, laid-up-to h.taken live.lexemes u.0 u.1 (tail-is (state_of v) u.0 u.2), live.given_are)
