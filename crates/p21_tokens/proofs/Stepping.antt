-- What each action makes of what is held.
use Rattle.std.proofs.Common.{eqb, cond, ◌≡◌, ℕ, ◌+◌, ◌<◌, true, false, List, [], ◌∷◌, ◌++◌, refl, sym, ap, ◌∙◌, subst, arith, Option, Some, None, Ok, Err}
use Rattle.std.proofs.lemmas.Bool.{cond_both}
use Rattle.std.proofs.lemmas.Option.{same_Some}
use Rattle.p21_spec_exchange.specs.Laying.{Lexeme, count_behind}
use Rattle.p21_spec_exchange.specs.Token as meaning
use Rattle.p21_tokens_automaton.proofs.Steps.{lex-pass, lex-skip, lex-keep, lex-put, lex-give, lex-close, lex-dash, lex-end, lex-byte}
use Rattle.p21_scan.specs.Bytes.{is_blank}
use Rattle.p21_tokens_automaton.specs.Meaning.{Means, MeanAll}
use Rattle.p21_tokens_automaton.specs.Reading.{start, Answer, without_tokens, stopped, before, FoundToken, known, spelled, keyword, user_keyword, whole, real, item, bits, SizedToken, closed_token, ended_token, ended_token_in, ended_number, ended_word, ended_name, ended_text, marker_of, single_token, with_token_in_front, continue_marker, first, act, at_end, with_last_tokens, all_tokens, lex}
use Rattle.p21_tokens_automaton.specs.Step.{advance}
use Rattle.p21_tokens_automaton.specs.declared.mode.Action.{Action}
use Rattle.p21_tokens_automaton.specs.declared.mode.Action.TheVariants.{Pass, Skip, Keep, Put, Give, Close, End, Dash, Refuse}
use Rattle.p21_tokens_automaton.specs.declared.mode.Mode.{Mode}
use Rattle.p21_tokens_automaton.specs.declared.mode.Mode.TheVariants.{Between, Slash, Comment, Star, Number, Word, Name, Binary, Text}
use Rattle.p21_tokens_automaton.specs.declared.mode.NumberMode.{NumberMode}
use Rattle.p21_tokens_automaton.specs.declared.mode.NumberMode.TheVariants as number_mode
use Rattle.p21_tokens_automaton.specs.declared.mode.WordMode.{WordMode}
use Rattle.p21_tokens_automaton.specs.declared.mode.WordMode.TheVariants as word_mode
use Rattle.p21_tokens_automaton.specs.declared.mode.Marker.TheVariants.{Begin, Finish}
use Rattle.p21_tokens_automaton.specs.declared.mode.NameMode.{NameMode}
use Rattle.p21_tokens_automaton.specs.declared.mode.NameMode.TheVariants as name_mode
use Rattle.p21_tokens_automaton.specs.declared.mode.TextMode.{TextMode}
use Rattle.p21_tokens_automaton.specs.declared.mode.TextMode.TheVariants as text_mode
use Rattle.p21_tokens_automaton.specs.declared.mode.Single.{Single}
use Rattle.p21_tokens_automaton.specs.declared.mode.Single.TheVariants as single
use Rattle.p21_tokens_automaton.specs.declared.mode.Wrong.{Wrong}
use Rattle.p21_tokens_automaton.specs.declared.mode.Wrong.TheVariants as wrong
use Rattle.p21_tokens.specs.Fault.{fault_of}
use Rattle.p21_tokens.specs.Held.{Held, pending_of, state_of}
use Rattle.p21_tokens.specs.Steps.{is_gap, rest_of, IsDeadAt, EndsNoMeantToken, IsInLimits, IsFaultAt, IsFaultOf, ReadsFound, SameCounts, SameLimits, RefusesByte, Steps, behind_token, ClosesToken, EndsToken}
use Rattle.p21_tokens.specs.Token.{meant, waits}
use Rattle.p21_tokens.specs.declared.fault.TokenFault.{TokenFault}
use Rattle.p21_tokens.specs.declared.fault.TokenFault.TheVariants as fault
use Rattle.p21_tokens.specs.declared.step.Outcome.TheVariants.{Took, Gave, Handed}
use Rattle.p21_tokens.specs.declared.token.Token.{Token}

pub same-limits : (v w : Held) → w.statement_limit ≡ v.statement_limit → w.file_limit ≡ v.file_limit → w.refused ≡ v.refused → SameLimits v w
same-limits v w e f g = record { statement_limit = e; file_limit = f; refused = g }

pub same-limits_itself : (v : Held) → SameLimits v v
same-limits_itself v = same-limits v v refl refl refl

pub same-counts_itself : (v : Held) → SameCounts v v
same-counts_itself v = record { pending = refl; file = refl }

-- ---- separators between tokens need nothing

abbrev Passes : Action → Type 0
Passes (Pass m) = is_gap m ≡ true
Passes (Refuse w) = Unit {0}
Passes other = ⊥

blank-passes : (m : Mode) (b : ℕ) → is_gap m ≡ true → is_blank b ≡ true → Passes (advance m b)
blank-passes Between b g h = rw h refl
blank-passes Slash b g h = cond_both (eqb b 42) (Pass Comment) (Refuse wrong.Byte) Passes (λ e. refl) (λ e. tt)
blank-passes Comment b g h = cond_both (eqb b 42) (Pass Star) (Pass Comment) Passes (λ e. refl) (λ e. refl)
blank-passes Star b g h =
    cond_both (eqb b 47) (Pass Between) (cond (eqb b 42) (Pass Star) (Pass Comment)) Passes (λ e. refl)
    (λ e. cond_both (eqb b 42) (Pass Star) (Pass Comment) Passes (λ f. refl) (λ f. refl))
blank-passes _ b g h = cc

-- ---- refusals

all-first : (found : FoundToken) (size : ℕ) (a : Answer) (founds : List SizedToken) (lexemes : List Lexeme) → all_tokens (before (record { found = found; size = size }) a) ≡ Some founds → MeanAll founds lexemes → (token : meaning.Token) × Means found token
all-first found size a founds lexemes e m = at (at_end a.ending) e
  where
    by_list : (ls : List Lexeme) (rest : List SizedToken) → MeanAll (record { found = found; size = size } ∷ rest) ls → (token : meaning.Token) × Means found token
    by_list [] rest m = absurd m
    by_list (l ∷ ls) rest m = (l.token, m.0)

    at : (o : Option (List SizedToken)) → with_last_tokens (record { found = found; size = size } ∷ a.given) o ≡ Some founds → (token : meaning.Token) × Means found token
    at None e = absurd cc
    at (Some last) e =
        let same : founds ≡ record { found = found; size = size } ∷ (a.given ++ last) = cc in
        by_list lexemes (a.given ++ last) (subst (λ (x : List SizedToken). MeanAll x lexemes) same m)

not-all : (w : Wrong) (founds : List SizedToken) → all_tokens (without_tokens (stopped w)) ≡ Some founds → ⊥
not-all w founds e = cc

-- no token is found, or one that means nothing
dead-first : (v : Held) (b : ℕ) (o : Option FoundToken) (size : ℕ) (go : List ℕ → Answer) → ((bs : List ℕ) → rest_of v (b ∷ bs) ≡ with_token_in_front o size (go bs)) → ((found : FoundToken) → o ≡ Some found → (token : meaning.Token) → Means found token → ⊥) → IsDeadAt v (b ∷ [])
dead-first v b None size go e n rest founds lexemes a m = not-all wrong.Byte founds (sym (ap all_tokens (e rest)) ∙ a)
dead-first v b (Some found) size go e n rest founds lexemes a m =
    let x = all-first found size (go rest) founds lexemes (sym (ap all_tokens (e rest)) ∙ a) m in n found refl x.0 x.1

reads-refuses : (v : Held) (b : ℕ) (o : Option FoundToken) (size : ℕ) (go : List ℕ → Answer) (x : TokenFault) → ((bs : List ℕ) → rest_of v (b ∷ bs) ≡ with_token_in_front o size (go bs)) → (advance v.mode b ≡ End → ended_token (state_of v) ≡ o) → (is_gap v.mode ≡ true → is_blank b ≡ true → ⊥) → IsInLimits v b → (IsFaultOf fault.BadByte o x → IsFaultAt v b (advance v.mode b) x) → ReadsFound o (Err x) → RefusesByte v b x
reads-refuses v b o size go x e i n l w r = by_fault x o e i w r
  where
    none : (x : TokenFault) (o : Option FoundToken) → ((bs : List ℕ) → rest_of v (b ∷ bs) ≡ with_token_in_front o size (go bs)) → (advance v.mode b ≡ End → ended_token (state_of v) ≡ o) → ((found : FoundToken) → o ≡ Some found → (token : meaning.Token) → Means found token → ⊥) → IsFaultAt v b (advance v.mode b) x
        → IsDeadAt v (b ∷ []) × EndsNoMeantToken v b × IsInLimits v b × IsFaultAt v b (advance v.mode b) x
    none x o e i h named = (dead-first v b o size go e h, (λ q found token f m. h found (sym (i q) ∙ f) token m), l, named)

    of_some : (f : FoundToken) → ((token : meaning.Token) → Means f token → ⊥) → (found : FoundToken) → Some f ≡ Some found → (token : meaning.Token) → Means found token → ⊥
    of_some f h found q token m = h token (subst (λ (y : FoundToken). Means y token) (sym (same_Some f found q)) m)

    of_none : (found : FoundToken) → (let o : Option FoundToken = None in o) ≡ Some found → (token : meaning.Token) → Means found token → ⊥
    of_none found q = absurd cc

    by_fault : (x : TokenFault) (o : Option FoundToken) → ((bs : List ℕ) → rest_of v (b ∷ bs) ≡ with_token_in_front o size (go bs)) → (advance v.mode b ≡ End → ended_token (state_of v) ≡ o) → (IsFaultOf fault.BadByte o x → IsFaultAt v b (advance v.mode b) x) → ReadsFound o (Err x) → RefusesByte v b x
    by_fault fault.NoMemory o e i w r = n
    by_fault fault.FileTooLong None e i w r = absurd r.0
    by_fault fault.FileTooLong (Some f) e i w r = absurd r.0
    by_fault fault.RecordTooLong None e i w r = absurd r.0
    by_fault fault.RecordTooLong (Some f) e i w r = absurd r.0
    by_fault fault.OpenString None e i w r = absurd r.0
    by_fault fault.OpenString (Some f) e i w r = absurd r.0
    by_fault fault.OpenComment None e i w r = absurd r.0
    by_fault fault.OpenComment (Some f) e i w r = absurd r.0
    by_fault fault.NotOneParameter None e i w r = absurd r.0
    by_fault fault.NotOneParameter (Some f) e i w r = absurd r.0
    by_fault fault.EndsEarly None e i w r = absurd r.0
    by_fault fault.EndsEarly (Some f) e i w r = absurd r.0
    by_fault _ None e i w r = none _ None e i of_none (w (r.1 tt))
    by_fault _ (Some f) e i w r = none _ (Some f) e i (of_some f r.0) (w (r.1 tt))

module _ (v : Held) (b : ℕ) where
  pub needs-memory : (a : Action) → advance v.mode b ≡ a → (Passes a → ⊥) → is_gap v.mode ≡ true → is_blank b ≡ true → ⊥
  needs-memory a e n g h = n (subst Passes e (blank-passes v.mode b g h))

  pub took-pass : (m : Mode) (w : Held) → advance v.mode b ≡ Pass m → w ≡ record v { mode = m; file = v.file + 1 } → Steps v b (Ok Took) w
  took-pass m w e q = subst (λ (x : Held). Steps v b (Ok Took) x) (sym q) (
    same-limits v _ refl refl refl,
    record { file_is = refl; statement_is = refl; rest_is = λ rest. lex-pass (state_of v) m b rest e; gap = λ g h. subst Passes e (blank-passes v.mode b g h) },
  )

  pub took-skip : (m : Mode) (w : Held) → advance v.mode b ≡ Skip m → w ≡ record v { mode = m; size = v.size + 1; file = v.file + 1 } → Steps v b (Ok Took) w
  took-skip m w e q = subst (λ (x : Held). Steps v b (Ok Took) x) (sym q) (
    same-limits v _ refl refl refl,
    record { file_is = refl; statement_is = refl; rest_is = λ rest. lex-skip (state_of v) m b rest e; gap = λ g h. absurd (subst Passes e (blank-passes v.mode b g h)) },
  )

  pub took-keep : (m : Mode) (w : Held) → advance v.mode b ≡ Keep m → w ≡ record v { mode = m; pending_bytes = v.pending_bytes ++ b ∷ []; size = v.size + 1; file = v.file + 1 } → Steps v b (Ok Took) w
  took-keep m w e q = subst (λ (x : Held). Steps v b (Ok Took) x) (sym q) (
    same-limits v _ refl refl refl,
    record { file_is = refl; statement_is = refl; rest_is = λ rest. lex-keep (state_of v) m b rest e; gap = λ g h. absurd (subst Passes e (blank-passes v.mode b g h)) },
  )

  pub took-put : (m : Mode) (c : ℕ) (w : Held) → advance v.mode b ≡ Put m c → w ≡ record v { mode = m; characters = v.characters ++ c ∷ []; size = v.size + 1; file = v.file + 1 } → Steps v b (Ok Took) w
  took-put m c w e q = subst (λ (x : Held). Steps v b (Ok Took) x) (sym q) (
    same-limits v _ refl refl refl,
    record { file_is = refl; statement_is = refl; rest_is = λ rest. lex-put (state_of v) m c b rest e; gap = λ g h. absurd (subst Passes e (blank-passes v.mode b g h)) },
  )

  pub took-take_dash : (m : Mode) (w : Held) → advance v.mode b ≡ Dash → marker_of v.pending_bytes ≡ Some m → w ≡ record v { mode = m; pending_bytes = v.pending_bytes ++ b ∷ []; size = v.size + 1; file = v.file + 1 } → Steps v b (Ok Took) w
  took-take_dash m w e f q = subst (λ (x : Held). Steps v b (Ok Took) x) (sym q) (
    same-limits v _ refl refl refl,
    record { file_is = refl; statement_is = refl; rest_is = λ rest. lex-dash (state_of v) m b rest e f; gap = λ g h. absurd (subst Passes e (blank-passes v.mode b g h)) },
  )

  dead-refused : (x : Wrong) → advance v.mode b ≡ Refuse x → IsDeadAt v (b ∷ [])
  dead-refused x e rest founds lexemes a m =
      not-all x founds (sym (ap all_tokens (lex-byte (state_of v) b rest ∙ ap (λ (y : Action). act y (state_of v) b (λ next. lex next rest)) e)) ∙ a)

  refused : (x : Wrong) → advance v.mode b ≡ Refuse x → IsInLimits v b → IsDeadAt v (b ∷ []) × EndsNoMeantToken v b × IsInLimits v b × IsFaultAt v b (advance v.mode b) (fault_of x)
  refused x e l = (dead-refused x e, (λ q. absurd (let clash : Refuse x ≡ End = sym e ∙ q in cc)), l, subst (λ (a : Action). IsFaultAt v b a (fault_of x)) (sym e) refl)

pub single-at_once : (one : Single) → waits (single_token one) ≡ false
single-at_once single.Left = refl
single-at_once single.Right = refl
single-at_once single.Comma = refl
single-at_once single.Semicolon = refl
single-at_once single.Equals = refl
single-at_once single.Dollar = refl
single-at_once single.Star = refl

-- ---- tokens that are given

-- a token that its last byte ends does not wait, and is no `;`
record EndsItself (t : meaning.Token) : Type 0 where
  at_once : waits t ≡ false
  counts : (n size : ℕ) → count_behind n (record { token = t; size = size }) ≡ n + size

closed_token-ends : (m : Mode) (pending_bytes : List ℕ) (f : FoundToken) (t : meaning.Token) → closed_token m pending_bytes ≡ Some f → Means f t → EndsItself t
closed_token-ends (Word m) pending_bytes f t e h = by_item t (subst (λ (x : FoundToken). Means x t) (sym (same_Some _ f e)) h)
  where
    by_item : (t : meaning.Token) → Means (spelled item pending_bytes) t → EndsItself t
    by_item (meaning.item word) h = record { at_once = refl; counts = λ n size. refl }
    by_item other h = absurd h.0
closed_token-ends (Binary m) pending_bytes f t e h = by_bits t (subst (λ (x : FoundToken). Means x t) (sym (same_Some _ f e)) h)
  where
    by_bits : (t : meaning.Token) → Means (spelled bits pending_bytes) t → EndsItself t
    by_bits (meaning.bits value) h = record { at_once = refl; counts = λ n size. refl }
    by_bits other h = absurd h.0
closed_token-ends _ pending_bytes f t e h = cc

-- a token that the byte behind it ends waits
abbrev Waited : FoundToken → Type 0
Waited f = (t : meaning.Token) → Means f t → waits t ≡ true

known-waits : (t : meaning.Token) → waits t ≡ true → Waited (known t)
known-waits t w u h = ap waits (sym h) ∙ w

keyword-waits : (pending_bytes : List ℕ) → Waited (spelled keyword pending_bytes)
keyword-waits pending_bytes (meaning.keyword word) h = refl
keyword-waits pending_bytes other h = absurd h.0

user_keyword-waits : (pending_bytes : List ℕ) → Waited (spelled user_keyword pending_bytes)
user_keyword-waits pending_bytes (meaning.user_keyword word) h = refl
user_keyword-waits pending_bytes other h = absurd h.0

whole-waits : (pending_bytes : List ℕ) → Waited (spelled whole pending_bytes)
whole-waits pending_bytes (meaning.whole number) h = refl
whole-waits pending_bytes other h = absurd h.0

real-waits : (pending_bytes : List ℕ) → Waited (spelled real pending_bytes)
real-waits pending_bytes (meaning.real number) h = refl
real-waits pending_bytes other h = absurd h.0

of_found : (f g : FoundToken) → Some f ≡ Some g → Waited f → Waited g
of_found f g e w = subst (λ (x : FoundToken). (t : meaning.Token) → Means x t → waits t ≡ true) (same_Some f g e) w

pub ended_token-waits : (m : Mode) (pending_bytes characters : List ℕ) (f : FoundToken) → ended_token_in m pending_bytes characters ≡ Some f → Waited f
ended_token-waits (Number m) pending_bytes characters f e = by_mode m e
  where
    by_mode : (m : NumberMode) → ended_number m pending_bytes ≡ Some f → Waited f
    by_mode number_mode.Whole e = of_found _ f e (whole-waits pending_bytes)
    by_mode number_mode.Fraction e = of_found _ f e (real-waits pending_bytes)
    by_mode number_mode.ExponentDigits e = of_found _ f e (real-waits pending_bytes)
    by_mode _ e = cc
ended_token-waits (Word m) pending_bytes characters f e = by_mode m e
  where
    by_mode : (m : WordMode) → ended_word m pending_bytes ≡ Some f → Waited f
    by_mode word_mode.Keyword e = of_found _ f e (keyword-waits pending_bytes)
    by_mode word_mode.UserKeyword e = of_found _ f e (user_keyword-waits pending_bytes)
    by_mode (word_mode.Marked Begin) e = of_found _ f e (known-waits _ refl)
    by_mode (word_mode.Marked Finish) e = of_found _ f e (known-waits _ refl)
    by_mode _ e = cc
ended_token-waits (Name m) pending_bytes characters f e = by_mode m e
  where
    by_mode : (m : NameMode) → ended_name m ≡ Some f → Waited f
    by_mode (name_mode.Digits value) e = of_found _ f e (known-waits _ refl)
    by_mode _ e = cc
ended_token-waits (Text m) pending_bytes characters f e = by_mode m e
  where
    by_mode : (m : TextMode) → ended_text m characters ≡ Some f → Waited f
    by_mode text_mode.Apostrophe e = of_found _ f e (known-waits _ refl)
    by_mode _ e = cc
ended_token-waits _ pending_bytes characters f e = cc

-- a token that waits is no `;`
pub waits-count : (token : meaning.Token) (size n : ℕ) → waits token ≡ true → count_behind n (record { token = token; size = size }) ≡ n + size
waits-count meaning.begin size n e = refl
waits-count meaning.finish size n e = refl
waits-count (meaning.keyword word) size n e = refl
waits-count (meaning.user_keyword word) size n e = refl
waits-count (meaning.name number) size n e = refl
waits-count (meaning.whole number) size n e = refl
waits-count (meaning.real number) size n e = refl
waits-count (meaning.text characters) size n e = refl
waits-count _ size n e = cc

module _ (v : Held) (b : ℕ) where
  pub gave-one : (one : Single) (token : Token) (w : Held) → advance v.mode b ≡ Give one → pending_of v < v.statement_limit → meant token ≡ single_token one
      → w ≡ behind_token v (count_behind v.statement (record { token = single_token one; size = 1 })) (v.file + 1) → Steps v b (Ok (Gave token)) w
  gave-one one token w e l t q = subst (λ (x : Held). Steps v b (Ok (Gave token)) x) (sym q) (
    same-limits v _ refl refl refl,
    record {
      found = record { found = known (single_token one); size = 1 };
      means = sym t;
      at_once = ap waits t ∙ single-at_once one;
      within = omega arith;
      file_is = refl;
      statement_is = ap (λ (x : meaning.Token). count_behind v.statement (record { token = x; size = 1 })) (sym t);
      start_is = refl;
      rest_is = λ rest. lex-give (state_of v) one b rest e;
    },
  )

  pub gave-closed_token : (token : Token) (w : Held) → advance v.mode b ≡ Close → pending_of v < v.statement_limit → ClosesToken v b (Ok token) w → Steps v b (Ok (Gave token)) w
  gave-closed_token token w e l h = subst (λ (x : Held). Steps v b (Ok (Gave token)) x) (sym h.1) (at (closed_token v.mode (v.pending_bytes ++ b ∷ [])) refl h.0)
    where
      behind : Held
      behind = behind_token v (v.statement + (v.size + 1)) (v.file + 1)

      at : (o : Option FoundToken) → closed_token v.mode (v.pending_bytes ++ b ∷ []) ≡ o → ReadsFound o (Ok token) → Steps v b (Ok (Gave token)) (behind_token v (v.statement + (v.size + 1)) (v.file + 1))
      at None q r = absurd r
      at (Some f) q r =
          let ends = closed_token-ends v.mode (v.pending_bytes ++ b ∷ []) f (meant token) q r in (
            same-limits v _ refl refl refl,
            record {
              found = record { found = f; size = v.size + 1 };
              means = r;
              at_once = ends.at_once;
              within = omega arith;
              file_is = refl;
              statement_is = sym (ends.counts v.statement (v.size + 1));
              start_is = refl;
              rest_is = λ rest. lex-close (state_of v) f b rest e q;
            },
          )

  pub handed-ended_token : (token : Token) (w : Held) → advance v.mode b ≡ End → EndsToken v (Ok token) w → Steps v b (Ok (Handed token)) w
  handed-ended_token token w e h = subst (λ (x : Held). Steps v b (Ok (Handed token)) x) (sym h.1) (at (ended_token (state_of v)) refl h.0)
    where
      at : (o : Option FoundToken) → ended_token (state_of v) ≡ o → ReadsFound o (Ok token) → Steps v b (Ok (Handed token)) (behind_token v (v.statement + v.size) v.file)
      at None q r = absurd r
      at (Some f) q r = (
        same-limits v _ refl refl refl,
        record {
          found = f;
          means = r;
          waited = ended_token-waits v.mode v.pending_bytes v.characters f q (meant token) r;
          ended_is = q;
          within = h.2;
          file_is = refl;
          statement_is = refl;
          start_is = refl;
          rest_is = λ rest. lex-end (state_of v) f b rest e q;
        },
      )

  pub refused-closed_token : (x : TokenFault) (w : Held) → advance v.mode b ≡ Close → IsInLimits v b → ClosesToken v b (Err x) w → Steps v b (Err x) w
  refused-closed_token x w e l h = (
    h.1,
    reads-refuses v b (closed_token v.mode (v.pending_bytes ++ b ∷ [])) (v.size + 1) (λ bs. lex start bs) x (λ bs. lex-byte (state_of v) b bs ∙ ap (λ (y : Action). act y (state_of v) b (λ next. lex next bs)) e) (λ q. absurd (let clash : Close ≡ End = sym e ∙ q in cc)) (needs-memory v b Close e (λ p. p)) l (λ k. subst (λ (a : Action). IsFaultAt v b a x) (sym e) k) h.0,
    h.2,
  )

  pub refused-ended_token : (x : TokenFault) (w : Held) → advance v.mode b ≡ End → EndsToken v (Err x) w → Steps v b (Err x) w
  refused-ended_token x w e h = (
    h.1,
    reads-refuses v b (ended_token (state_of v)) v.size (λ bs. first (advance Between b) b (λ next. lex next bs)) x (λ bs. lex-byte (state_of v) b bs ∙ ap (λ (y : Action). act y (state_of v) b (λ next. lex next bs)) e) (λ _. refl) (needs-memory v b End e (λ p. p)) (λ n. absurd (n e)) (λ k. subst (λ (a : Action). IsFaultAt v b a x) (sym e) k) h.0,
    h.2,
  )

  pub refused-byte : (x : Wrong) → advance v.mode b ≡ Refuse x → IsInLimits v b → RefusesByte v b (fault_of x)
  refused-byte wrong.Byte e l = refused v b wrong.Byte e l
  refused-byte wrong.Directive e l = refused v b wrong.Directive e l
  refused-byte wrong.CodePoint e l = refused v b wrong.CodePoint e l
  refused-byte wrong.Utf8 e l = refused v b wrong.Utf8 e l
  refused-byte wrong.Number e l = refused v b wrong.Number e l
  refused-byte wrong.Binary e l = refused v b wrong.Binary e l
  refused-byte wrong.NameRange e l = refused v b wrong.NameRange e l
  refused-byte wrong.Name e l = refused v b wrong.Name e l
  refused-byte (wrong.LeftOut absent) e l = refused v b (wrong.LeftOut absent) e l

  -- the `-` behind bytes that begin no marker
  dead-take_dash : advance v.mode b ≡ Dash → marker_of v.pending_bytes ≡ None → IsDeadAt v (b ∷ [])
  dead-take_dash e n rest founds lexemes a m =
      not-all wrong.Byte founds (sym (ap all_tokens (lex-byte (state_of v) b rest ∙ (ap (λ (y : Action). act y (state_of v) b (λ next. lex next rest)) e
      ∙ ap (λ (o : Option Mode). continue_marker o (state_of v) b (λ next. lex next rest)) n))) ∙ a)

  pub refused-take_dash : advance v.mode b ≡ Dash → marker_of v.pending_bytes ≡ None → IsInLimits v b → RefusesByte v b fault.BadByte
  refused-take_dash e n l = (dead-take_dash e n, (λ q. absurd (let clash : Dash ≡ End = sym e ∙ q in cc)), l, subst (λ (a : Action). IsFaultAt v b a fault.BadByte) (sym e) refl)
