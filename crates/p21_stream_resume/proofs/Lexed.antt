-- Where a lexer stands behind each front of bytes that it takes, and when it stands in a string.
use Rattle.std.proofs.Common.{◌≡◌, ◌≢◌, ◌⊎◌, ◌<◌, ◌≤◌, ◌+◌, ◌*◌, ◌%◌, inl, inr, ℕ, Bool, true, false, ◌==◌, ◌&&◌, ◌||◌, nat_le, nat_lt, if◌then◌else◌, List, [], ◌∷◌, ◌++◌, length, length-append, Option, Some, None, refl, sym, ap, subst, ◌∙◌, append_assoc, append-nil, arith}
use Rattle.std.proofs.lemmas.Bool.{cond_both, eqb-false}
use Rattle.std.proofs.lemmas.List.{same_from_push}
use Rattle.std.specs.Prelude.{codes}
use Rattle.std.specs.Str.{bytes_eq}
use Rattle.p21_scan.specs.Hex.{hex_value, is_hex_digit}
use Rattle.p21_spec_exchange.proofs.OneGap.{gap-one}
use Rattle.p21_spec_exchange.specs.Laying.{LaidAs, Lexeme}
use Rattle.p21_spec_exchange.specs.Pending.{BeginsWithNoSeparator, IsTail, IsUnfinished, LaidUpTo, Tail, nothing, open_comment, slash, tail_bytes, unfinished}
use Rattle.p21_spec_exchange.specs.Separator.{IsSeparatorText}
use Rattle.p21_spec_exchange.specs.Text.{SpellsText}
use Rattle.p21_spec_exchange.specs.Token.{IsFollowed, Spells, text}
use Rattle.p21_spec_survey.specs.Resuming.{EndsInString}
use Rattle.p21_stream_resume.specs.Lexing.{AreLexed, IsInString, LeadsTo, marker_by, mode_behind, mode_first, mode_on}
use Rattle.p21_tokens_automaton.proofs.Fits.{ModeFits, StepFits}
use Rattle.p21_tokens_automaton.proofs.Gaps.{gap, gap-run}
use Rattle.p21_tokens_automaton.proofs.OnePending.{begins-no_separator}
use Rattle.p21_tokens_automaton.proofs.Prefixes.{ended_token-laid, spelling-some}
use Rattle.p21_tokens_automaton.proofs.Sound.{FirstFits, LaidTo, TailIs, UpTo}
use Rattle.p21_tokens_automaton.proofs.Steps.{lex-byte, lex-close, lex-dash, lex-end, lex-give, lex-keep, lex-nil, lex-pass, lex-put, lex-skip}
use Rattle.p21_tokens_automaton.proofs.TextFits.{TextFits}
use Rattle.p21_tokens_automaton.proofs.Theorems.{laid-up-to, read_laid, readings, steps-on, tail-ends, tail-is}
use Rattle.p21_tokens_automaton.proofs.TokenSound.{first-fits}
use Rattle.p21_tokens_automaton.specs.Meaning.{MeanAll, found_of}
use Rattle.p21_tokens_automaton.specs.Reading.{Answer, Continuation, Ending, FoundToken, SizedToken, State, act, after, before, closed_token, continue_marker, ended_text, ended_token, first, keep, known, lex, marker_of, open_at, pass, put, single_token, skip, start, stopped, with_token_in_front, without_tokens}
use lib.Utf8.{scalar}
use Rattle.p21_tokens_automaton.specs.Step.{advance, directive_action, first2_action, first4_action, group_action, group_value, inside_action, long_value, low_group_action, put_scalar, text_action, utf8_action, utf8_value}
use Rattle.p21_tokens_automaton.specs.declared.mode.Action.{Action}
use Rattle.p21_tokens_automaton.specs.declared.mode.Action.TheVariants.{Pass, Skip, Keep, Put, Give, Close, End, Dash, Refuse}
use Rattle.p21_tokens_automaton.specs.declared.mode.Mode.{Mode}
use Rattle.p21_tokens_automaton.specs.declared.mode.Marker.TheVariants.{Begin, Finish}
use Rattle.p21_tokens_automaton.specs.declared.mode.Mode.TheVariants.{Between, Comment, Slash, Star, Text, Word}
use Rattle.p21_tokens_automaton.specs.declared.mode.TextMode.{TextMode}
use Rattle.p21_tokens_automaton.specs.declared.mode.TextMode.TheVariants as text_mode
use Rattle.p21_tokens_automaton.specs.declared.mode.WordMode.TheVariants as word_mode
use Rattle.p21_tokens_automaton.specs.declared.mode.Wrong.{Wrong}
use Rattle.p21_tokens_automaton.specs.declared.mode.Wrong.TheVariants as wrong

-- ---- one byte

-- where a byte leads: the tokens that it gives, and the state behind it, whatever comes; its mode the action tells, and of a `-` the marker
pub record Goes (s : State) (b : ℕ) : Type 0 where
  pub next : State
  pub given : List SizedToken
  pub goes : (more : List ℕ) → lex s (b ∷ more) ≡ after given (lex next more)
  pub mode_is : (marked : Mode) → (advance s.mode b ≡ Dash → (m : Mode) → marker_of s.pending_bytes ≡ Some m → m ≡ marked) → next.mode ≡ mode_behind (advance s.mode b) b marked

not-open : (w : Wrong) (e : State) → stopped w ≡ open_at e → ⊥
not-open w e same = cc

-- between tokens, as the action says
first-goes : (b : ℕ) (a : Action) → advance Between b ≡ a → (e : State) (go : Continuation) → (first a b go).ending ≡ open_at e
    → (next : State) × (given : List SizedToken) × ((more : List ℕ) → lex start (b ∷ more) ≡ after given (lex next more)) × (next.mode ≡ mode_first a)
first-goes b (Pass m) is e go leads = (pass start m, [], λ more. lex-pass start m b more is, refl)
first-goes b (Skip m) is e go leads = (skip start m, [], λ more. lex-skip start m b more is, refl)
first-goes b (Keep m) is e go leads = (keep start m b, [], λ more. lex-keep start m b more is, refl)
first-goes b (Put m c) is e go leads = (put start m c, [], λ more. lex-put start m c b more is, refl)
first-goes b (Give one) is e go leads = (start, record { found = known (single_token one); size = 1 } ∷ [], λ more. lex-give start one b more is, refl)
first-goes b Close is e go leads = absurd (not-open _ e leads)
first-goes b End is e go leads = absurd (not-open _ e leads)
first-goes b Dash is e go leads = absurd (not-open _ e leads)
first-goes b (Refuse w) is e go leads = absurd (not-open w e leads)

-- behind a token that the byte closes, or ends, or a marker
closed-goes : (s e : State) (b : ℕ) (bs : List ℕ) → advance s.mode b ≡ Close → (o : Option FoundToken) → closed_token s.mode (s.pending_bytes ++ b ∷ []) ≡ o → (with_token_in_front o (s.size + 1) (lex start bs)).ending ≡ open_at e → Goes s b
closed-goes s e b bs is None has leads = absurd (not-open _ e leads)
closed-goes s e b bs is (Some f) has leads = record {
  next = start;
  given = record { found = f; size = s.size + 1 } ∷ [];
  goes = λ more. lex-close s f b more is has;
  mode_is = λ marked same. ap (λ (a : Action). mode_behind a b marked) (sym is);
}

ended-goes : (s e : State) (b : ℕ) (bs : List ℕ) → advance s.mode b ≡ End → (o : Option FoundToken) → ended_token s ≡ o → (with_token_in_front o s.size (first (advance Between b) b (λ next. lex next bs))).ending ≡ open_at e → Goes s b
ended-goes s e b bs is None has leads = absurd (not-open _ e leads)
ended-goes s e b bs is (Some f) has leads =
    let (next, given, goes, mode_is) = first-goes b (advance Between b) refl e (λ next. lex next bs) leads in
    record {
      next = next;
      given = record { found = f; size = s.size } ∷ given;
      goes = λ more. lex-end s f b more is has ∙ ap (λ (a : Answer). before (record { found = f; size = s.size }) a) (goes more);
      mode_is = λ marked same. mode_is ∙ ap (λ (a : Action). mode_behind a b marked) (sym is);
    }

marked-goes : (s e : State) (b : ℕ) (bs : List ℕ) → advance s.mode b ≡ Dash → (o : Option Mode) → marker_of s.pending_bytes ≡ o → (continue_marker o s b (λ next. lex next bs)).ending ≡ open_at e → Goes s b
marked-goes s e b bs is None has leads = absurd (not-open _ e leads)
marked-goes s e b bs is (Some m) has leads = record {
  next = keep s m b;
  given = [];
  goes = λ more. lex-dash s m b more is has;
  mode_is = λ marked same. same is m has ∙ ap (λ (a : Action). mode_behind a b marked) (sym is);
}

act-goes : (s e : State) (b : ℕ) (bs : List ℕ) (a : Action) → advance s.mode b ≡ a → (act a s b (λ next. lex next bs)).ending ≡ open_at e → Goes s b
act-goes s e b bs (Pass m) is leads = record { next = pass s m; given = []; goes = λ more. lex-pass s m b more is; mode_is = λ marked same. ap (λ (a : Action). mode_behind a b marked) (sym is) }
act-goes s e b bs (Skip m) is leads = record { next = skip s m; given = []; goes = λ more. lex-skip s m b more is; mode_is = λ marked same. ap (λ (a : Action). mode_behind a b marked) (sym is) }
act-goes s e b bs (Keep m) is leads = record { next = keep s m b; given = []; goes = λ more. lex-keep s m b more is; mode_is = λ marked same. ap (λ (a : Action). mode_behind a b marked) (sym is) }
act-goes s e b bs (Put m c) is leads = record { next = put s m c; given = []; goes = λ more. lex-put s m c b more is; mode_is = λ marked same. ap (λ (a : Action). mode_behind a b marked) (sym is) }
act-goes s e b bs (Give one) is leads = record {
  next = start;
  given = record { found = known (single_token one); size = 1 } ∷ [];
  goes = λ more. lex-give s one b more is;
  mode_is = λ marked same. ap (λ (a : Action). mode_behind a b marked) (sym is);
}
act-goes s e b bs Close is leads = closed-goes s e b bs is (closed_token s.mode (s.pending_bytes ++ b ∷ [])) refl leads
act-goes s e b bs End is leads = ended-goes s e b bs is (ended_token s) refl leads
act-goes s e b bs Dash is leads = marked-goes s e b bs is (marker_of s.pending_bytes) refl leads
act-goes s e b bs (Refuse w) is leads = absurd (not-open w e leads)

pub one-goes : (s e : State) (b : ℕ) (bs : List ℕ) → LeadsTo s (b ∷ bs) e → Goes s b
one-goes s e b bs leads = act-goes s e b bs (advance s.mode b) refl (sym (ap (λ (a : Answer). a.ending) (lex-byte s b bs)) ∙ leads)

pub leads-on : (s e : State) (b : ℕ) (bs : List ℕ) (g : Goes s b) → LeadsTo s (b ∷ bs) e → LeadsTo g.next bs e
leads-on s e b bs g leads = sym (ap (λ (a : Answer). a.ending) (g.goes bs)) ∙ leads

-- ---- a front of the bytes

pub record Front (s : State) (xs ys : List ℕ) (e : State) : Type 0 where
  pub between : State
  pub leads : LeadsTo s xs between
  pub further : LeadsTo between ys e
  pub given_are : (lex s (xs ++ ys)).given ≡ (lex s xs).given ++ (lex between ys).given

pub front-leads : (xs ys : List ℕ) (s e : State) → LeadsTo s (xs ++ ys) e → Front s xs ys e
front-leads [] ys s e leads = record {
  between = s;
  leads = ap (λ (a : Answer). a.ending) (lex-nil s);
  further = leads;
  given_are = ap (λ (ts : List SizedToken). ts ++ (lex s ys).given) (sym (ap (λ (a : Answer). a.given) (lex-nil s)));
}
front-leads (b ∷ xs) ys s e leads =
    let g = one-goes s e b (xs ++ ys) leads in
    let f = front-leads xs ys g.next e (leads-on s e b (xs ++ ys) g leads) in
    let here : (lex s (b ∷ xs)).given ≡ g.given ++ (lex g.next xs).given = ap (λ (a : Answer). a.given) (g.goes xs) in
    let all : (lex s (b ∷ (xs ++ ys))).given ≡ g.given ++ (lex g.next (xs ++ ys)).given = ap (λ (a : Answer). a.given) (g.goes (xs ++ ys)) in
    let more : List SizedToken = (lex f.between ys).given in
    record {
      between = f.between;
      leads = ap (λ (a : Answer). a.ending) (g.goes xs) ∙ f.leads;
      further = f.further;
      given_are =
          all ∙ (ap (λ (ts : List SizedToken). g.given ++ ts) f.given_are
          ∙ (sym (append_assoc g.given (lex g.next xs).given more) ∙ ap (λ (ts : List SizedToken). ts ++ more) (sym here)));
    }

pub mean-front : (xs ys : List SizedToken) (ls : List Lexeme) → MeanAll (xs ++ ys) ls → (ms : List Lexeme) × MeanAll xs ms
mean-front [] ys ls mean = ([], tt)
mean-front (x ∷ xs) ys [] mean = absurd mean
mean-front (x ∷ xs) ys (l ∷ ls) mean = let (ms, more) = mean-front xs ys ls mean.2 in (l ∷ ms, (mean.0, mean.1, more))

-- so each front of bytes that are lexed is lexed
pub front-lexed : (xs ys : List ℕ) (e : State) → AreLexed (xs ++ ys) e → (f : Front start xs ys e) × AreLexed xs f.between
front-lexed xs ys e lexed =
    let f = front-leads xs ys start e lexed.leads in
    let (ms, mean) = mean-front (lex start xs).given (lex f.between ys).given lexed.lexemes (subst (λ (ts : List SizedToken). MeanAll ts lexed.lexemes) f.given_are lexed.mean) in
    (f, record { leads = f.leads; lexemes = ms; mean = mean })

-- and laid up to what the state says
pub lexed-laid : (bytes : List ℕ) (e : State) (lexed : AreLexed bytes e) → UpTo bytes lexed.lexemes e
lexed-laid bytes e lexed =
    read_laid bytes (lex start bytes).given lexed.lexemes e (ap (λ (x : Ending). record { given = (lex start bytes).given; ending = x }) lexed.leads) lexed.mean

-- ---- the bytes of a string

-- what a byte does in a string
abbrev TextGoes : TextMode → ℕ → Action → Type 0
TextGoes m b (Skip (Text n)) = Unit {0}
TextGoes m b (Put (Text n) c) = Unit {0}
TextGoes m b End = (m ≡ text_mode.Apostrophe) × (b ≢ 39)
TextGoes m b (Refuse w) = Unit {0}
TextGoes m b other = ⊥

module _ (m : TextMode) (b : ℕ) where
  either : (test : Bool) (x y : Action) → TextGoes m b x → TextGoes m b y → TextGoes m b (if test then x else y)
  either test x y here other = cond_both test x y (TextGoes m b) (λ _. here) (λ _. other)

  hexed : (x : Action) → TextGoes m b x → TextGoes m b (if is_hex_digit b then x else Refuse wrong.Directive)
  hexed x here = either (is_hex_digit b) x (Refuse wrong.Directive) here tt

  due-goes : (expected : ℕ) (n : TextMode) → TextGoes m b (directive_action expected n b)
  due-goes expected n = either (b == expected) (Skip (Text n)) (Refuse wrong.Directive) tt tt

  scalar-goes : (n : TextMode) (character : ℕ) → TextGoes m b (put_scalar n character)
  scalar-goes n character = either (scalar character) (Put (Text n) character) (Refuse wrong.CodePoint) tt tt

  group-goes : (value : ℕ) → TextGoes m b (group_action value)
  group-goes value = either (nat_le 0xD800 value && nat_le value 0xDBFF) (Skip (Text (text_mode.LowFirst value))) (put_scalar text_mode.Extended2Next value) tt (scalar-goes text_mode.Extended2Next value)

  low_group-goes : (high value : ℕ) → TextGoes m b (low_group_action high value)
  low_group-goes high value =
      let character : ℕ = 65536 + (high % 1024) * 1024 + value % 1024 in
      either (nat_le 0xDC00 value && nat_le value 0xDFFF) (put_scalar text_mode.Extended2Next character) (Refuse wrong.CodePoint) (scalar-goes text_mode.Extended2Next character) tt

  utf8-goes : TextGoes m b (utf8_action b)
  utf8-goes =
      either (nat_le 0xC2 b && nat_le b 0xDF) (Skip (Text (text_mode.Utf8Last (b % 32)))) _ tt
      (either (b == 0xE0) (Skip (Text (text_mode.Utf8Second 0xA0 0xBF 0))) _ tt
      (either (b == 0xED) (Skip (Text (text_mode.Utf8Second 0x80 0x9F 13))) _ tt
      (either (nat_le 0xE1 b && nat_le b 0xEF) (Skip (Text (text_mode.Utf8Second 0x80 0xBF (b % 16)))) _ tt
      (either (b == 0xF0) (Skip (Text (text_mode.Utf8Third 0x90 0xBF 0))) _ tt
      (either (b == 0xF4) (Skip (Text (text_mode.Utf8Third 0x80 0x8F 4))) _ tt
      (either (nat_le 0xF1 b && nat_le b 0xF3) (Skip (Text (text_mode.Utf8Third 0x80 0xBF (b % 8)))) (Refuse wrong.Utf8) tt tt))))))

  inside-goes : TextGoes m b (inside_action b)
  inside-goes =
      either (b == 39) (Skip (Text text_mode.Apostrophe)) _ tt
      (either (b == 92) (Skip (Text text_mode.Backslash)) _ tt
      (either (nat_lt b 32 || b == 127) (Skip (Text text_mode.Inside)) _ tt
      (either (nat_lt b 127) (Put (Text text_mode.Inside) b) (utf8_action b) tt utf8-goes)))

  first2-goes : TextGoes m b (first2_action b)
  first2-goes = hexed (Skip (Text (text_mode.Extended2Digits 1 (hex_value b)))) tt

  first4-goes : TextGoes m b (first4_action b)
  first4-goes = hexed (Skip (Text (text_mode.Extended4Digits 1 (hex_value b)))) tt

text-goes : (m : TextMode) (b : ℕ) → TextGoes m b (text_action m b)
text-goes text_mode.Inside b = inside-goes text_mode.Inside b
text-goes text_mode.Apostrophe b = cond_both (b == 39) (Put (Text text_mode.Inside) 39) End (TextGoes text_mode.Apostrophe b) (λ _. tt) (λ q. (refl, eqb-false b 39 q))
text-goes text_mode.Backslash b =
    either text_mode.Backslash b (b == 92) (Put (Text text_mode.Inside) 92) _ tt
    (either text_mode.Backslash b (b == 88) (Skip (Text text_mode.HexMark)) _ tt
    (either text_mode.Backslash b (b == 83) (Skip (Text text_mode.PageMark)) _ tt
    (either text_mode.Backslash b (b == 80) (Skip (Text text_mode.AlphabetMark)) (Refuse wrong.Directive) tt tt)))
text-goes text_mode.PageMark b = due-goes text_mode.PageMark b 92 text_mode.Page
text-goes text_mode.Page b = either text_mode.Page b (nat_le 32 b && nat_le b 126) (Put (Text text_mode.Inside) (b + 128)) (Refuse wrong.Directive) tt tt
text-goes text_mode.AlphabetMark b = due-goes text_mode.AlphabetMark b 65 text_mode.Alphabet
text-goes text_mode.Alphabet b = due-goes text_mode.Alphabet b 92 text_mode.Inside
text-goes text_mode.HexMark b =
    either text_mode.HexMark b (b == 50) (Skip (Text text_mode.Extended2Mark)) _ tt
    (either text_mode.HexMark b (b == 52) (Skip (Text text_mode.Extended4Mark)) _ tt
    (either text_mode.HexMark b (b == 92) (Skip (Text text_mode.Arbitrary)) (Refuse wrong.Directive) tt tt))
text-goes text_mode.Arbitrary b = hexed text_mode.Arbitrary b (Skip (Text (text_mode.ArbitrarySecond (hex_value b)))) tt
text-goes (text_mode.ArbitrarySecond high) b = hexed (text_mode.ArbitrarySecond high) b (Put (Text text_mode.Inside) (high % 16 * 16 + hex_value b)) tt
text-goes text_mode.Extended2Mark b = due-goes text_mode.Extended2Mark b 92 text_mode.Extended2First
text-goes text_mode.Extended2First b = first2-goes text_mode.Extended2First b
text-goes text_mode.Extended2Next b = either text_mode.Extended2Next b (b == 92) (Skip (Text text_mode.EndBackslash)) (first2_action b) tt (first2-goes text_mode.Extended2Next b)
text-goes (text_mode.Extended2Digits count value) b =
    let own : TextMode = text_mode.Extended2Digits count value in
    hexed own b (if nat_lt count 3 then Skip (Text (text_mode.Extended2Digits (count + 1) (group_value value b))) else group_action (group_value value b))
    (either own b (nat_lt count 3) (Skip (Text (text_mode.Extended2Digits (count + 1) (group_value value b)))) (group_action (group_value value b)) tt (group-goes own b (group_value value b)))
text-goes (text_mode.LowFirst high) b =
    let own : TextMode = text_mode.LowFirst high in
    either own b (is_hex_digit b) (Skip (Text (text_mode.LowDigits high 1 (hex_value b)))) _ tt
    (either own b (b == 92) (Refuse wrong.CodePoint) (Refuse wrong.Directive) tt tt)
text-goes (text_mode.LowDigits high count value) b =
    let own : TextMode = text_mode.LowDigits high count value in
    hexed own b (if nat_lt count 3 then Skip (Text (text_mode.LowDigits high (count + 1) (group_value value b))) else low_group_action high (group_value value b))
    (either own b (nat_lt count 3) (Skip (Text (text_mode.LowDigits high (count + 1) (group_value value b)))) (low_group_action high (group_value value b)) tt (low_group-goes own b high (group_value value b)))
text-goes text_mode.Extended4Mark b = due-goes text_mode.Extended4Mark b 92 text_mode.Extended4First
text-goes text_mode.Extended4First b = first4-goes text_mode.Extended4First b
text-goes text_mode.Extended4Next b = either text_mode.Extended4Next b (b == 92) (Skip (Text text_mode.EndBackslash)) (first4_action b) tt (first4-goes text_mode.Extended4Next b)
text-goes (text_mode.Extended4Digits count value) b =
    let own : TextMode = text_mode.Extended4Digits count value in
    hexed own b (if nat_lt count 7 then Skip (Text (text_mode.Extended4Digits (count + 1) (long_value value b))) else put_scalar text_mode.Extended4Next (long_value value b))
    (either own b (nat_lt count 7) (Skip (Text (text_mode.Extended4Digits (count + 1) (long_value value b)))) (put_scalar text_mode.Extended4Next (long_value value b)) tt (scalar-goes own b text_mode.Extended4Next (long_value value b)))
text-goes text_mode.EndBackslash b = due-goes text_mode.EndBackslash b 88 text_mode.EndMark
text-goes text_mode.EndMark b = due-goes text_mode.EndMark b 48 text_mode.EndZero
text-goes text_mode.EndZero b = due-goes text_mode.EndZero b 92 text_mode.Inside
text-goes (text_mode.Utf8Last value) b =
    let own : TextMode = text_mode.Utf8Last value in
    either own b (nat_le 0x80 b && nat_le b 0xBF) (if scalar (utf8_value value b) then Put (Text text_mode.Inside) (utf8_value value b) else Refuse wrong.Utf8) (Refuse wrong.Utf8)
    (either own b (scalar (utf8_value value b)) (Put (Text text_mode.Inside) (utf8_value value b)) (Refuse wrong.Utf8) tt tt) tt
text-goes (text_mode.Utf8Second low high value) b =
    either (text_mode.Utf8Second low high value) b (nat_le low b && nat_le b high) (Skip (Text (text_mode.Utf8Last (utf8_value value b)))) (Refuse wrong.Utf8) tt tt
text-goes (text_mode.Utf8Third low high value) b =
    either (text_mode.Utf8Third low high value) b (nat_le low b && nat_le b high) (Skip (Text (text_mode.Utf8Second 0x80 0xBF (utf8_value value b)))) (Refuse wrong.Utf8) tt tt

-- the bytes inside a string leave it open, or an apostrophe among them ends it
data StaysOpen (s : State) (inside : List ℕ) (e : State) : Type 0 where
  stays : (m : TextMode) → e.mode ≡ Text m → lex s inside ≡ without_tokens (open_at e) → StaysOpen s inside e
  ends : (p q : List ℕ) (b : ℕ) (f : State) → inside ≡ p ++ b ∷ q → lex s p ≡ without_tokens (open_at f) → f.mode ≡ Text text_mode.Apostrophe → b ≢ 39 → StaysOpen s inside e

abbrev StaysAlways : List ℕ → Type 0
StaysAlways inside = (s e : State) (m : TextMode) → s.mode ≡ Text m → LeadsTo s inside e → StaysOpen s inside e

byte-open : (b : ℕ) (bs : List ℕ) → StaysAlways bs → StaysAlways (b ∷ bs)
byte-open b bs deeper s e m is leads = at (text_action m b) (ap (λ (x : Mode). advance x b) is) (text-goes m b)
  where
    on : (next : State) (n : TextMode) → next.mode ≡ Text n → ((more : List ℕ) → lex s (b ∷ more) ≡ lex next more) → StaysOpen s (b ∷ bs) e
    on next n next_is goes = by (deeper next e n next_is (sym (ap (λ (a : Answer). a.ending) (goes bs)) ∙ leads))
      where
        by : StaysOpen next bs e → StaysOpen s (b ∷ bs) e
        by (stays k e_is all) = stays k e_is (goes bs ∙ all)
        by (ends p q c f are front f_is other) = ends (b ∷ p) q c f (ap (λ (l : List ℕ). b ∷ l) are) (goes p ∙ front) f_is other

    at : (a : Action) → advance s.mode b ≡ a → TextGoes m b a → StaysOpen s (b ∷ bs) e
    at (Skip (Text n)) act_is goes = on (skip s (Text n)) n refl (λ more. lex-skip s (Text n) b more act_is)
    at (Put (Text n) c) act_is goes = on (put s (Text n) c) n refl (λ more. lex-put s (Text n) c b more act_is)
    at End act_is goes = ends [] bs b s refl (lex-nil s) (is ∙ ap Text goes.0) goes.1
    at (Refuse w) act_is goes = absurd (not-open w e (sym (ap (λ (a : Answer). a.ending) (lex-byte s b bs ∙ ap (λ (x : Action). act x s b (λ next. lex next bs)) act_is)) ∙ leads))
    at _ act_is goes = absurd goes

stays-open : (inside : List ℕ) → StaysAlways inside
stays-open [] s e m is leads =
    let same : s ≡ e = (let h : open_at s ≡ open_at e = sym (ap (λ (a : Answer). a.ending) (lex-nil s)) ∙ leads in cc) in
    stays m (ap (λ (x : State). x.mode) (sym same) ∙ is) (lex-nil s ∙ ap (λ (x : State). without_tokens (open_at x)) same)
stays-open (b ∷ bs) s e m is leads = byte-open b bs (stays-open bs) s e m is leads

-- ---- the string that the bytes end in

text-of : (mode : Mode) → IsInString mode → (m : TextMode) × (mode ≡ Text m) × (m ≢ text_mode.Apostrophe)
text-of (Text m) is = (m, refl, λ same. subst (λ (x : TextMode). IsInString (Text x)) same is)
text-of _ is = absurd is

text-begins : (m : TextMode) (chars bytes : List ℕ) → TextFits m chars bytes → (inside : List ℕ) × (bytes ≡ 39 ∷ inside)
text-begins (text_mode.ArbitrarySecond high) chars bytes fits = (_, fits.1.1)
text-begins text_mode.Extended2First chars bytes fits = (_, fits.front_is)
text-begins text_mode.Extended2Next chars bytes fits = (_, fits.0.front_is)
text-begins (text_mode.Extended2Digits count value) chars bytes fits = (_, fits.1.front_is)
text-begins (text_mode.LowFirst high) chars bytes fits = (_, fits.1.front_is)
text-begins (text_mode.LowDigits high count value) chars bytes fits = (_, fits.2.front_is)
text-begins text_mode.Extended4First chars bytes fits = (_, fits.front_is)
text-begins text_mode.Extended4Next chars bytes fits = (_, fits.0.front_is)
text-begins (text_mode.Extended4Digits count value) chars bytes fits = (_, fits.1.front_is)
text-begins text_mode.EndBackslash chars bytes fits = (_, fits.front_is)
text-begins text_mode.EndMark chars bytes fits = (_, fits.front_is)
text-begins text_mode.EndZero chars bytes fits = (_, fits.front_is)
text-begins (text_mode.Utf8Last value) chars bytes fits = (_, fits.1.1)
text-begins (text_mode.Utf8Second low high value) chars bytes fits = (_, fits.1.1)
text-begins (text_mode.Utf8Third low high value) chars bytes fits = (_, fits.1.1)
text-begins _ chars bytes fits = (_, fits.1)

no-token : (m : TextMode) (chars : List ℕ) → m ≢ text_mode.Apostrophe → ended_text m chars ≡ None
no-token text_mode.Apostrophe chars other = absurd (other refl)
no-token _ chars other = refl

-- where the lexer stands in a string the bytes end in one
pub in-string : (bytes : List ℕ) (e : State) → AreLexed bytes e → IsInString e.mode → EndsInString bytes
in-string bytes e lexed is = by up.0 up.1 up.2
  where
    up : UpTo bytes lexed.lexemes e
    up = lexed-laid bytes e lexed

    out : (s : State) → e ≡ s → ¬ IsInString s.mode → ⊥
    out s same not_in = not_in (subst (λ (x : State). IsInString x.mode) same is)

    by : (tail : Tail) → LaidTo bytes lexed.lexemes (tail_bytes tail) → TailIs e tail → EndsInString bytes
    by nothing l t = absurd (out start t (λ x. x))
    by slash l t = absurd (out (gap Slash) t (λ x. x))
    by (open_comment inside) l t = absurd (elim t.0 [ inl q ↦ out (gap Comment) q (λ x. x) | inr q ↦ out (gap Star) q (λ x. x) ])
    by (unfinished u) l t =
        let (m, mode_is, other) = text-of e.mode is in
        let fits : TextFits m e.characters u = subst (λ (x : Mode). ModeFits x e.pending_bytes e.characters u) mode_is t.0 in
        let (inside, u_is) = text-begins m e.characters u fits in
        let laid : LaidUpTo bytes lexed.lexemes (unfinished u) = laid-up-to bytes lexed.lexemes (unfinished u) l (tail-is e (unfinished u) t) in (
          lexed.lexemes,
          inside,
          subst (λ (x : List ℕ). LaidUpTo bytes lexed.lexemes (unfinished x)) u_is laid,
          λ chars spells. (
              let ended = (tail-ends e u t (text chars) 32 (subst (λ (x : List ℕ). SpellsText x chars) (sym u_is) spells) (λ same. absurd (omega (arith, same)))).1 in
              let none : ended_token e ≡ None = ap (λ (x : Mode). ended_token (record e { mode = x })) mode_is ∙ no-token m e.characters other in
              let clash : (let o : Option FoundToken = None in o) ≡ Some (found_of (text chars) u) = sym none ∙ ended in
              cc),
        )

-- ---- and the other way round

-- no bytes end in a tail that has some
pub none-laid : (ls : List Lexeme) (tail : Tail) → tail_bytes tail ≢ [] → LaidUpTo [] ls tail → ⊥
none-laid [] tail some (gap_, is, separates, own) = some (no-bytes gap_ (tail_bytes tail) is)
  where
    no-bytes : (xs ys : List ℕ) → [] ≡ xs ++ ys → ys ≡ []
    no-bytes [] ys same = sym same
    no-bytes (x ∷ xs) ys same = cc
none-laid (l ∷ ls) tail some (gap_, spelling, rest, is, separates, spells, size_is, followed, laid) =
    let spelt = spelling-some l.token spelling spells in
    let size = ap length is in
    let sum = length-append gap_ (spelling ++ rest) in
    let own = length-append spelling rest in
    omega (arith, spelt, size, sum, own)

pub tail-of : (ls : List Lexeme) (bytes : List ℕ) (tail : Tail) → LaidUpTo bytes ls tail → IsTail tail
tail-of [] bytes tail (gap_, is, separates, own) = own
tail-of (l ∷ ls) bytes tail (gap_, spelling, rest, is, separates, spells, size, followed, laid) = tail-of ls rest tail laid

-- the lexer takes what stands in front of a tail, and stands between tokens
pub laid-run : (ls : List Lexeme) (bytes : List ℕ) (tail : Tail) → tail_bytes tail ≢ [] → LaidUpTo bytes ls tail → (founds : List SizedToken) × (lex start bytes ≡ after founds (lex start (tail_bytes tail)))
laid-run [] bytes tail some (gap_, is, separates, own) = ([], ap (λ (l : List ℕ). lex start l) is ∙ gap-run gap_ separates (tail_bytes tail))
laid-run (l ∷ ls) bytes tail some (gap_, spelling, [], is, separates, spells, size, followed, laid) = absurd (none-laid ls tail some laid)
laid-run (l ∷ ls) bytes tail some (gap_, spelling, (b ∷ rest), is, separates, spells, size, followed, laid) =
    let (founds, more) = laid-run ls (b ∷ rest) tail some laid in
    let here : lex start bytes ≡ lex start (spelling ++ (b ∷ rest)) = ap (λ (x : List ℕ). lex start x) is ∙ gap-run gap_ separates (spelling ++ (b ∷ rest)) in
    elim (readings l.token spelling spells) [
      | inl w ↦ (
          let x : SizedToken = record { found = found_of l.token spelling; size = w.state.size } in
          (x ∷ founds, here ∙ (w.reaches (b ∷ rest) ∙ (lex-end w.state (found_of l.token spelling) b rest (w.ends b followed) w.ended_is ∙ ap (λ (a : Answer). before x a) more))))
      | inr g ↦ (
          let x : SizedToken = record { found = found_of l.token spelling; size = length spelling } in
          (x ∷ founds, here ∙ (g.run (b ∷ rest) ∙ ap (λ (a : Answer). before x a) more)))
    ]

no-gap : IsSeparatorText []
no-gap = ([], tt, refl)

-- behind an apostrophe that may end it, a string is whole
spelled : (inside : List ℕ) (f : State) → lex start (39 ∷ inside) ≡ without_tokens (open_at f) → f.mode ≡ Text text_mode.Apostrophe → SpellsText (39 ∷ inside) f.characters
spelled inside f run is = by up.0 up.1 up.2
  where
    up : UpTo (39 ∷ inside) [] f
    up = read_laid (39 ∷ inside) [] [] f run tt

    out : (s : State) → f ≡ s → ¬ (s.mode ≡ Text text_mode.Apostrophe) → ⊥
    out s same other = other (ap (λ (x : State). x.mode) (sym same) ∙ is)

    by : (tail : Tail) → LaidTo (39 ∷ inside) [] (tail_bytes tail) → TailIs f tail → SpellsText (39 ∷ inside) f.characters
    by nothing l t = absurd (out start t (λ e. cc))
    by slash l t = absurd (out (gap Slash) t (λ e. cc))
    by (open_comment text_) l t = absurd (elim t.0 [ inl q ↦ out (gap Comment) q (λ e. cc) | inr q ↦ out (gap Star) q (λ e. cc) ])
    by (unfinished u) l t =
        let first : BeginsWithNoSeparator (39 ∷ inside) = (omega arith, (λ e. absurd (omega (arith, e))), (λ e. absurd (omega (arith, e)))) in
        let same : 39 ∷ inside ≡ u = gap-one [] l.0 (39 ∷ inside) u no-gap l.2 (begins-no_separator (39 ∷ inside) first) (begins-no_separator u t.3) l.1 in
        let fits : TextFits text_mode.Apostrophe f.characters u = subst (λ (x : Mode). ModeFits x f.pending_bytes f.characters u) is t.0 in
        record { inside = fits.0; bytes_are = same ∙ fits.1; encodes = fits.2 }

is-apostrophe : (m : TextMode) → (m ≡ text_mode.Apostrophe) ⊎ IsInString (Text m)
is-apostrophe text_mode.Apostrophe = inl refl
is-apostrophe _ = inr tt

-- where the bytes end in a string the lexer stands in one
pub string-in : (bytes : List ℕ) (e : State) → LeadsTo start bytes e → EndsInString bytes → IsInString e.mode
string-in bytes e leads (ls, inside, laid, none) = by (stays-open inside (skip start (Text text_mode.Inside)) e text_mode.Inside refl own)
  where
    first : (more : List ℕ) → lex start (39 ∷ more) ≡ lex (skip start (Text text_mode.Inside)) more
    first more = lex-skip start (Text text_mode.Inside) 39 more refl

    unwhole : IsUnfinished (39 ∷ inside)
    unwhole = tail-of ls bytes (unfinished (39 ∷ inside)) laid

    own : LeadsTo (skip start (Text text_mode.Inside)) inside e
    own = let (founds, run) = laid-run ls bytes (unfinished (39 ∷ inside)) (λ none_. cc) laid in sym (ap (λ (a : Answer). a.ending) (run ∙ ap (λ (a : Answer). after founds a) (first inside))) ∙ leads

    by : StaysOpen (skip start (Text text_mode.Inside)) inside e → IsInString e.mode
    by (stays m is run) = elim (is-apostrophe m) [
      | inl last ↦ absurd (none e.characters (spelled inside e (first inside ∙ run) (is ∙ ap Text last)))
      | inr in_string ↦ subst IsInString (sym is) in_string
    ]
    by (ends p q b f are run is other) =
        absurd (unwhole.not_whole (text f.characters) (39 ∷ p) (b ∷ q) (ap (λ (l : List ℕ). 39 ∷ l) are) (spelled p f (first p ∙ run) is) other)

-- where it stands in a string and the bytes may not end, they end in it
pub text-in : (bytes : List ℕ) (e : State) (m : TextMode) (lexed : AreLexed bytes e) → e.mode ≡ Text m → ((ls : List Lexeme) → LaidAs bytes ls → ⊥) → EndsInString bytes
text-in bytes e m lexed is unlaid = elim (is-apostrophe m) [
  | inl last ↦ (
      let mode_is : e.mode ≡ Text text_mode.Apostrophe = is ∙ ap Text last in
      let found : FoundToken = known (text e.characters) in
      let ended : ended_token e ≡ Some found = ap (λ (x : Mode). ended_token (record e { mode = x })) mode_is in
      let whole : Lexeme = record { token = text e.characters; size = e.size } in
      absurd (unlaid (lexed.lexemes ++ whole ∷ []) (ended_token-laid bytes lexed.lexemes e found whole (lexed-laid bytes e lexed) ended refl refl)))
  | inr in_string ↦ in-string bytes e lexed (subst IsInString (sym is) in_string)
]

-- ---- the mode of the lexer, byte by byte

-- the markers that a `-` leads to
marker-is : (p : List ℕ) (m : Mode) → marker_of p ≡ Some m → (m ≡ Word (word_mode.Marker Begin 4)) ⊎ (m ≡ Word (word_mode.Marker Finish 4))
marker-is p m =
    let Says : Option Mode → Type 0 = λ o. o ≡ Some m → (m ≡ Word (word_mode.Marker Begin 4)) ⊎ (m ≡ Word (word_mode.Marker Finish 4)) in
    let begins : Option Mode = Some (Word (word_mode.Marker Begin 4)) in
    let ends_ : Option Mode = Some (Word (word_mode.Marker Finish 4)) in
    let later : Option Mode = if bytes_eq p (codes "END") then ends_ else None in
    cond_both (bytes_eq p (codes "ISO")) begins later Says (λ q is. let same : Word (word_mode.Marker Begin 4) ≡ m = cc in inl (sym same)) (λ _.
    cond_both (bytes_eq p (codes "END")) ends_ None Says (λ q is. let same : Word (word_mode.Marker Finish 4) ≡ m = cc in inr (sym same)) (λ _ is. absurd cc))

-- the tail stands last
tail-last : (bytes : List ℕ) (ls : List Lexeme) (tail : List ℕ) → LaidTo bytes ls tail → (before_ : List ℕ) × (bytes ≡ before_ ++ tail)
tail-last bytes [] tail (gap_, is, separates) = (gap_, is)
tail-last bytes (l ∷ ls) tail (gap_, spelling, rest, is, separates, spells, size, followed, laid) =
    let (before_, rest_is) = tail-last rest ls tail laid in
    (gap_ ++ (spelling ++ before_), is ∙ (ap (λ (x : List ℕ). gap_ ++ (spelling ++ x)) rest_is ∙ (ap (λ (x : List ℕ). gap_ ++ x) (sym (append_assoc spelling before_ tail)) ∙ sym (append_assoc gap_ (spelling ++ before_) tail))))

no-dash : (b : ℕ) (a : Action) → FirstFits b a → a ≡ Dash → ⊥
no-dash b Dash fits is = fits
no-dash b (Pass m) fits is = cc
no-dash b (Skip m) fits is = cc
no-dash b (Keep m) fits is = cc
no-dash b (Put m c) fits is = cc
no-dash b (Give one) fits is = cc
no-dash b Close fits is = cc
no-dash b End fits is = cc
no-dash b (Refuse w) fits is = cc

no-gap_dash : (b : ℕ) (m : Mode) → (m ≡ Slash) ⊎ (m ≡ Comment) ⊎ (m ≡ Star) → advance m b ≡ Dash → ⊥
no-gap_dash b m which is = elim which [
  | inl q ↦ by (advance Slash b) (cond_both (b == 42) (Pass Comment) (Refuse wrong.Byte) Other (λ _ e. cc) (λ _ e. cc)) (sym (ap (λ (x : Mode). advance x b) q) ∙ is)
  | inr (inl q) ↦ by (advance Comment b) (cond_both (b == 42) (Pass Star) (Pass Comment) Other (λ _ e. cc) (λ _ e. cc)) (sym (ap (λ (x : Mode). advance x b) q) ∙ is)
  | inr (inr q) ↦ by (advance Star b)
      (cond_both (b == 47) (Pass Between) (if b == 42 then Pass Star else Pass Comment) Other (λ _ e. cc) (λ _. cond_both (b == 42) (Pass Star) (Pass Comment) Other (λ _ e. cc) (λ _ e. cc)))
      (sym (ap (λ (x : Mode). advance x b) q) ∙ is)
]
  where
    Other : Action → Type 0
    Other a = a ≡ Dash → ⊥

    by : (a : Action) → Other a → a ≡ Dash → ⊥
    by a other e = other e

-- the byte in front of a `-` tells the marker
marked-by : (bytes : List ℕ) (s : State) (lexed : AreLexed bytes s) (b last : ℕ) → ((ys : List ℕ) (z : ℕ) → bytes ≡ ys ++ z ∷ [] → last ≡ z) → advance s.mode b ≡ Dash → (m : Mode) → marker_of s.pending_bytes ≡ Some m → m ≡ Word (word_mode.Marker (marker_by last) 4)
marked-by bytes s lexed b last last_is dashes m has = by up.0 up.1 up.2
  where
    up : UpTo bytes lexed.lexemes s
    up = lexed-laid bytes s lexed

    by : (tail : Tail) → LaidTo bytes lexed.lexemes (tail_bytes tail) → TailIs s tail → m ≡ Word (word_mode.Marker (marker_by last) 4)
    by nothing l t = absurd (no-dash b (advance Between b) (first-fits b) (sym (ap (λ (x : State). advance x.mode b) t) ∙ dashes))
    by slash l t = absurd (no-gap_dash b s.mode (inl (ap (λ (x : State). x.mode) t)) dashes)
    by (open_comment inside) l t = absurd (elim t.0 [
      | inl q ↦ no-gap_dash b s.mode (inr (inl (ap (λ (x : State). x.mode) q))) dashes
      | inr q ↦ no-gap_dash b s.mode (inr (inr (ap (λ (x : State). x.mode) q))) dashes
    ])
    by (unfinished u) l t =
        let (before_, bytes_are) = tail-last bytes lexed.lexemes u l in
        let steps : StepFits s.mode s.pending_bytes s.characters u b Dash = subst (λ (a : Action). StepFits s.mode s.pending_bytes s.characters u b a) dashes (steps-on s u b t) in
        let fits = steps m has in
        elim (marker-is s.pending_bytes m has) [
          | inl is ↦ (
              let own : ModeFits (Word (word_mode.Marker Begin 4)) (s.pending_bytes ++ b ∷ []) s.characters (u ++ b ∷ []) = subst (λ (x : Mode). ModeFits x (s.pending_bytes ++ b ∷ []) s.characters (u ++ b ∷ [])) is fits in
              let (u_is, dash) = same_from_push u (73 ∷ 83 ∷ 79 ∷ []) b 45 own.1.0 in
              let last_one : last ≡ 79 = last_is (before_ ++ 73 ∷ 83 ∷ []) 79 (bytes_are ∙ (ap (λ (x : List ℕ). before_ ++ x) u_is ∙ sym (append_assoc before_ (73 ∷ 83 ∷ []) (79 ∷ [])))) in
              is ∙ ap (λ (n : ℕ). Word (word_mode.Marker (marker_by n) 4)) (sym last_one))
          | inr is ↦ (
              let own : ModeFits (Word (word_mode.Marker Finish 4)) (s.pending_bytes ++ b ∷ []) s.characters (u ++ b ∷ []) = subst (λ (x : Mode). ModeFits x (s.pending_bytes ++ b ∷ []) s.characters (u ++ b ∷ [])) is fits in
              let (u_is, dash) = same_from_push u (69 ∷ 78 ∷ 68 ∷ []) b 45 own.1.0 in
              let last_one : last ≡ 68 = last_is (before_ ++ 69 ∷ 78 ∷ []) 68 (bytes_are ∙ (ap (λ (x : List ℕ). before_ ++ x) u_is ∙ sym (append_assoc before_ (69 ∷ 78 ∷ []) (68 ∷ [])))) in
              is ∙ ap (λ (n : ℕ). Word (word_mode.Marker (marker_by n) 4)) (sym last_one))
        ]

pub one-state : (bytes : List ℕ) (s t : State) → LeadsTo start bytes s → LeadsTo start bytes t → s ≡ t
one-state bytes s t first other = let h : open_at s ≡ open_at t = sym first ∙ other in cc

-- so the mode behind a byte is told by the mode in front of it, and the byte before
pub mode-on : (bytes : List ℕ) (b last : ℕ) (s e : State) → AreLexed bytes s → LeadsTo start (bytes ++ b ∷ []) e → ((ys : List ℕ) (z : ℕ) → bytes ≡ ys ++ z ∷ [] → last ≡ z) → e.mode ≡ mode_on s.mode last b
mode-on bytes b last s e lexed leads last_is =
    let f = front-leads bytes (b ∷ []) start e leads in
    let same : f.between ≡ s = one-state bytes f.between s f.leads lexed.leads in
    let further : LeadsTo s (b ∷ []) e = subst (λ (x : State). LeadsTo x (b ∷ []) e) same f.further in
    let g = one-goes s e b [] further in
    let next : g.next ≡ e = (let h : open_at g.next ≡ open_at e = sym (ap (λ (a : Answer). a.ending) (lex-nil g.next)) ∙ leads-on s e b [] g further in cc) in
    ap (λ (x : State). x.mode) (sym next) ∙ g.mode_is (Word (word_mode.Marker (marker_by last) 4)) (λ dashes m has. marked-by bytes s lexed b last last_is dashes m has)
