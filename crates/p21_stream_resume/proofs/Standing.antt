-- Signposts at the front of bytes, and in a string of a statement.
use Rattle.std.proofs.Common.{◌≡◌, ◌≢◌, ◌≤◌, ◌<◌, ◌+◌, ◌↔◌, ℕ, Bool, IsTrue, false, true, List, [], ◌∷◌, ◌++◌, length, length-append, take, drop, get_or, Option, Some, None, inl, inr, refl, sym, ap, subst, ◌∙◌, append_assoc, append-nil, arith}
use Rattle.std.proofs.lemmas.Bool.{cases_lt}
use Rattle.std.proofs.lemmas.List.{drop_all, drop_more, length-take-le, same_from_push, take-append-drop, take_all, take_more}
use Rattle.p21_spec_survey.specs.Landmark.{IsOpened, IsSignpost, Signpost, StandsAt, file_begin, file_end, instance, landmark, section_end, signpost_bytes}
use Rattle.p21_spec_survey.specs.Resuming.{EndsInString}
use Rattle.p21_stream_resume.proofs.Lexed.{front-lexed, in-string, mode-on, one-state, string-in}
use Rattle.p21_stream_resume.proofs.Runs.{read-ends, read-goes, read-nil, signpost-run}
use Rattle.p21_stream_resume.proofs.Shapes.{Fits, Follows, IsEnded, begins_one, goes_on, stays_out, step-fits}
use Rattle.p21_stream_resume.specs.Lexing.{AreLexed, IsInString, LeadsTo, mode_on}
use Rattle.p21_stream_resume.specs.Reading.{Ending, found, open_at, read, size_in}
use Rattle.p21_stream_resume.specs.Shape.{Describes, HasShape}
use Rattle.p21_stream_resume.specs.Standing.{BeginsWithSignpost, FindsAtFront, FindsInString, FindsThere, StandsInString}
use Rattle.p21_stream_resume.specs.Step.{class_of, step}
use Rattle.p21_stream_resume.specs.declared.mode.Mode.{Mode}
use Rattle.p21_stream_resume.specs.declared.mode.Mode.TheVariants as mode
use Rattle.p21_stream_resume.specs.declared.mode.Step.{Step}
use Rattle.p21_stream_resume.specs.declared.mode.Step.TheVariants.{Goes, Ends}
use Rattle.p21_stream_resume.specs.declared.signpost.Signpost as code
use Rattle.p21_tokens_automaton.proofs.Steps.{lex-nil}
use Rattle.p21_tokens_automaton.specs.Meaning.{MeanAll}
use Rattle.p21_tokens_automaton.specs.Reading as lexing
use Rattle.p21_tokens_automaton.specs.Reading.{Answer, State}
use Rattle.p21_tokens_automaton.specs.declared.mode.Mode as lexer

-- ---- at the front

-- all bytes so far belong to the signpost that the first one began
pub record IsBegun (bytes : List ℕ) (count : ℕ) (m : Mode) : Type 0 where
  pub reads : read mode.Opened 0 bytes ≡ read m count (drop count bytes)
  pub shape : HasShape m (take count bytes)

pub begun-first : (bytes : List ℕ) → IsBegun bytes 0 mode.Opened
begun-first bytes = record { reads = refl; shape = refl }

abbrev FoundWithin : List ℕ → Type 0
FoundWithin bytes = (m : Mode) (begun : List ℕ) (own : code.Signpost) (size : ℕ) (rest : List ℕ) → HasShape m begun → read m (length begun) bytes ≡ found own size rest → size + length rest ≤ length begun + length bytes

byte-within : (b : ℕ) (bytes : List ℕ) → FoundWithin bytes → FoundWithin (b ∷ bytes)
byte-within b bytes deeper m begun own size rest shape is = by (step m (class_of b) b) refl (step-fits m begun b shape)
  where
    by : (s : Step) → step m (class_of b) b ≡ s → Fits m begun b s → size + length rest ≤ length begun + length (b ∷ bytes)
    by (Ends other) step_is fits =
        let here : found other (length begun + 1) bytes ≡ found own size rest = sym (read-ends m other (length begun) b bytes step_is) ∙ is in
        let sizes : length begun + 1 ≡ size = cc in
        let rests : bytes ≡ rest = cc in
        let rests_ = ap length rests in
        omega (arith, sizes, rests_)
    by (Goes next) step_is fits = follows fits
      where
        on : (more : List ℕ) → HasShape next more → size_in next (length begun) ≡ length more → length more ≤ length begun + 1 → size + length rest ≤ length begun + length (b ∷ bytes)
        on more shape_ size_is few =
            let further = deeper next more own size rest shape_ (subst (λ (n : ℕ). read next n bytes ≡ found own size rest) size_is (sym (read-goes m next (length begun) b bytes step_is) ∙ is)) in
            omega (arith, further, few)

        follows : Follows m begun b next → size + length rest ≤ length begun + length (b ∷ bytes)
        follows (stays_out shape_ size_is) = on [] shape_ size_is (omega arith)
        follows (begins_one may shape_ size_is) = on (b ∷ []) shape_ size_is (omega arith)
        follows (goes_on some shape_ size_is) =
            let longer = length-append begun (b ∷ []) in
            on (begun ++ b ∷ []) shape_ (size_is ∙ sym longer) (omega (arith, longer))

-- what is found behind them has no more bytes
found-within : (bytes : List ℕ) → FoundWithin bytes
found-within [] m begun own size rest shape is = let clash : open_at m (length begun) ≡ found own size rest = sym (read-nil m (length begun)) ∙ is in cc
found-within (b ∷ bytes) m begun own size rest shape is = byte-within b bytes (found-within bytes) m begun own size rest shape is

-- the next byte
module _ (bytes : List ℕ) (count : ℕ) (m : Mode) (low : count < length bytes) (is : IsBegun bytes count m) where
  abbrev b : ℕ
  b = get_or bytes count 0

  abbrev behind : List ℕ
  behind = drop (count + 1) bytes

  own_size : length (take count bytes) ≡ count
  own_size = length-take-le count bytes (omega (arith, low))

  here : drop count bytes ≡ b ∷ behind
  here = drop_more bytes count 0 low

  -- it ends the signpost
  pub front-ends : (own : code.Signpost) → step m (class_of b) b ≡ Ends own → FindsAtFront bytes (Some own)
  front-ends own step_is =
      let ended : IsEnded (take count bytes) b own = subst (λ (s : Step). Fits m (take count bytes) b s) step_is (step-fits m (take count bytes) b is.shape) in
      let all : bytes ≡ signpost_bytes ended.signpost ++ behind =
      sym (take-append-drop count bytes) ∙ (ap (λ (l : List ℕ). take count bytes ++ l) here ∙ (sym (append_assoc (take count bytes) (b ∷ []) behind) ∙ ap (λ (l : List ℕ). l ++ behind) ended.bytes_are)) in
      (ended.signpost, record { is_signpost = ended.is_signpost; rest = behind; bytes_are = all }, ended.describes)

  goes : (next : Mode) → step m (class_of b) b ≡ Goes next → read mode.Opened 0 bytes ≡ read next (size_in next count) behind
  goes next step_is = is.reads ∙ (ap (λ (l : List ℕ). read m count l) here ∙ read-goes m next count b behind step_is)

  fits_ : (next : Mode) → step m (class_of b) b ≡ Goes next → Follows m (take count bytes) b next
  fits_ next step_is = subst (λ (s : Step). Fits m (take count bytes) b s) step_is (step-fits m (take count bytes) b is.shape)

  -- it goes on in it
  pub front-goes : (next : Mode) → step m (class_of b) b ≡ Goes next → size_in next count ≡ count + 1 → IsBegun bytes (count + 1) next
  front-goes next step_is more = record {
    reads = goes next step_is ∙ ap (λ (n : ℕ). read next n behind) more;
    shape = subst (λ (l : List ℕ). HasShape next l) (sym (take_more bytes count 0 low)) (by (fits_ next step_is));
  }
    where
      sized : (n : ℕ) → size_in next (length (take count bytes)) ≡ n → n ≡ count + 1
      sized n size_is = sym size_is ∙ (ap (λ (k : ℕ). size_in next k) own_size ∙ more)

      by : Follows m (take count bytes) b next → HasShape next (take count bytes ++ b ∷ [])
      by (stays_out shape size_is) = absurd (let none = sized 0 size_is in omega (arith, none))
      by (begins_one may shape size_is) =
          let one = sized 1 size_is in
          let none : count ≡ 0 = omega (arith, one) in
          subst (λ (n : ℕ). HasShape next (take n bytes ++ b ∷ [])) (sym none) shape
      by (goes_on some shape size_is) = shape

  -- it doesn't, so none stands at the front
  pub front-none : (next : Mode) → step m (class_of b) b ≡ Goes next → size_in next count ≢ count + 1 → FindsAtFront bytes None
  front-none next step_is other signpost begins =
      let (own, run) = signpost-run mode.Opened 0 signpost begins.rest refl begins.is_signpost in
      let size : ℕ = length (signpost_bytes signpost) in
      let all : length bytes ≡ size + length begins.rest = ap length begins.bytes_are ∙ length-append (signpost_bytes signpost) begins.rest in
      let left : length bytes ≡ count + 1 + length behind =
      (let whole = ap length (sym (take-append-drop count bytes) ∙ ap (λ (l : List ℕ). take count bytes ++ l) here) in let sum = length-append (take count bytes) (b ∷ behind) in let own_ = own_size in omega (arith, whole, sum, own_)) in
      let found_is : read next (size_in next count) behind ≡ found own size begins.rest = sym (goes next step_is) ∙ (ap (λ (l : List ℕ). read mode.Opened 0 l) begins.bytes_are ∙ run) in
      by own size begins.rest all left found_is (fits_ next step_is)
    where
      fewer : (own : code.Signpost) (size : ℕ) (rest more : List ℕ) → length bytes ≡ size + length rest → length bytes ≡ count + 1 + length behind → read next (size_in next count) behind ≡ found own size rest → HasShape next more
          → size_in next (length (take count bytes)) ≡ length more → length more ≤ count → ⊥
      fewer own size rest more all left found_is shape size_is few =
          let sized : size_in next count ≡ length more = ap (λ (k : ℕ). size_in next k) (sym own_size) ∙ size_is in
          let within = found-within behind next more own size rest shape (subst (λ (n : ℕ). read next n behind ≡ found own size rest) sized found_is) in
          omega (arith, within, all, left, few)

      by : (own : code.Signpost) (size : ℕ) (rest : List ℕ) → length bytes ≡ size + length rest → length bytes ≡ count + 1 + length behind → read next (size_in next count) behind ≡ found own size rest → Follows m (take count bytes) b next → ⊥
      by own size rest all left found_is (stays_out shape size_is) = fewer own size rest [] all left found_is shape size_is (omega arith)
      by own size rest all left found_is (begins_one may shape size_is) =
          let sized : size_in next count ≡ 1 = ap (λ (k : ℕ). size_in next k) (sym own_size) ∙ size_is in
          fewer own size rest (b ∷ []) all left found_is shape size_is (omega (arith, sized, other))
      by own size rest all left found_is (goes_on some shape size_is) = other (ap (λ (k : ℕ). size_in next k) (sym own_size) ∙ (size_is ∙ ap (λ (k : ℕ). k + 1) own_size))

-- nor where the bytes end before it does
pub front-short : (bytes : List ℕ) (count : ℕ) (m : Mode) → length bytes ≤ count → IsBegun bytes count m → FindsAtFront bytes None
front-short bytes count m short is signpost begins =
    let (own, run) = signpost-run mode.Opened 0 signpost begins.rest refl begins.is_signpost in
    let nothing_left : drop count bytes ≡ [] = drop_all count bytes short in
    let clash : open_at m count ≡ found own (length (signpost_bytes signpost)) begins.rest =
    sym (is.reads ∙ (ap (λ (l : List ℕ). read m count l) nothing_left ∙ read-nil m count)) ∙ (ap (λ (l : List ℕ). read mode.Opened 0 l) begins.bytes_are ∙ run) in
    cc

-- ---- behind others

pub there-none : (before bytes : List ℕ) → FindsAtFront bytes None → FindsThere before bytes None
there-none before bytes none signpost stands = none signpost (record { is_signpost = stands.is_signpost; rest = stands.rest; bytes_are = stands.bytes_are })

pub there-closed : (before bytes : List ℕ) → ¬ IsOpened before → FindsThere before bytes None
there-closed before bytes closed signpost stands = closed stands.opened

pub there-some : (before bytes : List ℕ) (own : code.Signpost) → IsOpened before → FindsAtFront bytes (Some own) → FindsThere before bytes (Some own)
there-some before bytes own opened (signpost, begins, describes) = (signpost, record { is_signpost = begins.is_signpost; opened = opened; rest = begins.rest; bytes_are = begins.bytes_are }, describes)

pub not-opened : IsOpened [] → ⊥
not-opened is = let size = ap length is.before_are in let sum = length-append is.front (is.opener ∷ is.blanks) in omega (arith, size, sum)

-- a signpost has bytes
pub signpost-some : (signpost : Signpost) → 0 < length (signpost_bytes signpost)
signpost-some (landmark (instance digits blanks)) = omega arith
signpost-some (landmark (section_end blanks)) = omega arith
signpost-some file_begin = omega arith
signpost-some file_end = omega arith

-- ---- in a string

-- the lexer stands in this mode behind so many bytes of the statement, the last of which is this one
pub record StandsBehind (statement : List ℕ) (count : ℕ) (m : lexer.Mode) (last : ℕ) : Type 0 where
  pub state : State
  pub lexed : AreLexed (take count statement) state
  pub mode_is : m ≡ state.mode
  pub last_is : (ys : List ℕ) (z : ℕ) → take count statement ≡ ys ++ z ∷ [] → last ≡ z

-- and no signpost stands in a string in front
pub record IsAlong (statement : List ℕ) (count : ℕ) (m : lexer.Mode) (last : ℕ) : Type 0 where
  pub lexing : StandsBehind statement count m last
  pub none : (place : ℕ) (signpost : Signpost) → StandsInString statement place signpost → count ≤ place

no-last : (ys : List ℕ) (z : ℕ) → [] ≡ ys ++ z ∷ [] → ⊥
no-last ys z same = let size = ap length same in let sum = length-append ys (z ∷ []) in omega (arith, size, sum)

pub behind-first : (statement : List ℕ) → StandsBehind statement 0 lexing.start.mode 0
behind-first statement = record {
  state = lexing.start;
  lexed = record { leads = ap (λ (a : Answer). a.ending) (lex-nil lexing.start); lexemes = []; mean = subst (λ (a : Answer). MeanAll a.given []) (sym (lex-nil lexing.start)) tt };
  mode_is = refl;
  last_is = λ ys z same. absurd (no-last ys z same);
}

pub along-first : (statement : List ℕ) → IsAlong statement 0 lexing.start.mode 0
along-first statement = record { lexing = behind-first statement; none = λ place signpost stands. omega arith }

-- what stands there in a string is the first
pub along-found : (statement : List ℕ) (count : ℕ) (m : lexer.Mode) (last : ℕ) (own : code.Signpost) → count ≤ length statement → IsAlong statement count m last → IsInString m → FindsThere (take count statement) (drop count statement) (Some own) → FindsInString statement (Some (count, own))
along-found statement count m last own within along in_string (signpost, stands, describes) = (
  (signpost, record { within = within; in_string = in-string (take count statement) along.lexing.state along.lexing.lexed (subst IsInString along.lexing.mode_is in_string); stands = stands }, describes),
  along.none,
)

front-of : (statement : List ℕ) (count : ℕ) (e : State) → AreLexed statement e → (f : State) × AreLexed (take count statement) f
front-of statement count e lexed =
    let (front, own) = front-lexed (take count statement) (drop count statement) e (subst (λ (l : List ℕ). AreLexed l e) (sym (take-append-drop count statement)) lexed) in
    (front.between, own)

-- behind the next byte
pub behind-on : (statement : List ℕ) (e : State) → AreLexed statement e → (count : ℕ) (m : lexer.Mode) (last : ℕ) → count < length statement → StandsBehind statement count m last
    → StandsBehind statement (count + 1) (mode_on m last (get_or statement count 0)) (get_or statement count 0)
behind-on statement e lexed count m last low behind =
    let b : ℕ = get_or statement count 0 in
    let more : take (count + 1) statement ≡ take count statement ++ b ∷ [] = take_more statement count 0 low in
    let (f, own) = front-of statement (count + 1) e lexed in
    let mode_is : f.mode ≡ mode_on behind.state.mode last b = mode-on (take count statement) b last behind.state f behind.lexed (subst (λ (l : List ℕ). LeadsTo lexing.start l f) more own.leads) behind.last_is in
    record {
      state = f;
      lexed = own;
      mode_is = ap (λ (x : lexer.Mode). mode_on x last b) behind.mode_is ∙ sym mode_is;
      last_is = λ ys z same. (same_from_push (take count statement) ys b z (sym more ∙ same)).1;
    }

-- where none stands there in a string, the next byte
pub along-on : (statement : List ℕ) (e : State) → AreLexed statement e → (count : ℕ) (m : lexer.Mode) (last : ℕ) → count < length statement → IsAlong statement count m last → (IsInString m → FindsThere (take count statement) (drop count statement) None)
    → IsAlong statement (count + 1) (mode_on m last (get_or statement count 0)) (get_or statement count 0)
along-on statement e lexed count m last low along none = record { lexing = behind-on statement e lexed count m last low along.lexing; none = λ place signpost stands. further place signpost stands }
  where
    further : (place : ℕ) (signpost : Signpost) → StandsInString statement place signpost → count + 1 ≤ place
    further place signpost stands = elim (cases_lt count place) [
      | inl far ↦ omega (arith, far)
      | inr near ↦ (
          let no_earlier = along.none place signpost stands in
          let equal : place ≡ count = omega (arith, no_earlier, near) in
          let there : StandsInString statement count signpost = subst (λ (n : ℕ). StandsInString statement n signpost) equal stands in
          absurd (none (subst IsInString (sym along.lexing.mode_is) (string-in (take count statement) along.lexing.state along.lexing.lexed.leads there.in_string)) signpost there.stands))
    ]

-- all of it
pub along-all : (statement : List ℕ) (count : ℕ) (m : lexer.Mode) (last : ℕ) → length statement ≤ count → IsAlong statement count m last → FindsInString statement None
along-all statement count m last all along place signpost stands =
    let far = along.none place signpost stands in
    let near = stands.within in
    let nothing_left : drop place statement ≡ [] = drop_all place statement (omega (arith, far, all)) in
    let size = ap length (sym nothing_left ∙ stands.stands.bytes_are) in
    let sum = length-append (signpost_bytes signpost) stands.stands.rest in
    let some = signpost-some signpost in
    omega (arith, size, sum, some)
