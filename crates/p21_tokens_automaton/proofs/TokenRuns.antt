-- What the reader makes of the spelling of each token other than a string.
use Rattle.std.proofs.Common.{◌≡◌, ◌≢◌, ℕ, zero, suc, ◌+◌, ◌-◌, ◌*◌, ◌^◌, ◌<◌, ◌≤◌, ℤ, ◌⊎◌, inl, inr, Bool, true, false, codes, List, [], ◌∷◌, ◌++◌, length, map, replicate, refl, sym, ap, ap₂, subst, ◌∙◌, lt_of_le_of_lt, lt-ltb, append_assoc, append-nil, arith, Some}
use Rattle.std.proofs.lemmas.Bool.{ne_eqb}
use Rattle.std.proofs.lemmas.Bool.Decides.{nat_tests}
use Rattle.std.proofs.lemmas.List.{length_push}
use Rattle.std.specs.List.{flat_map, AllByRecursion as Each}
use Rattle.std.proofs.Math.Nat.{one-le-pow, mul-le-mul_left}
use Rattle.p21_spec_basics.proofs.PlainDigits.{number_append}
use Rattle.p21_spec_exchange.specs.Binary.{four_bits, has_bit}
use Rattle.p21_spec_basics.specs.Digits.{IsDigit, AllDigits, number as number_of, hex_digit}
use Rattle.p21_spec_exchange.specs.Keyword.{IsUpper, IsKeyword, IsKeywordByte}
use Rattle.p21_spec_exchange.specs.Number.{Sign, none, plus, minus, sign_bytes, no_exponent, exponent, exponent_bytes, Exponent, IsExponent, RealForm, Decimal}
use Rattle.p21_spec_exchange.specs.Token.{Token, Spells, MayFollow}
use Rattle.p21_spec_exchange.specs.Token as token
use Rattle.p21_tokens_automaton.specs.Meaning.{found_of}
use Rattle.p21_tokens_automaton.specs.Step.{advance, mode_behind_digit, has_zero_padding}
use Rattle.p21_tokens_automaton.specs.Reading.{State, start, Answer, before, FoundToken, known, spelled, item, bits, single_token, ended_token, closed_token, lex}
use Rattle.p21_tokens_automaton.specs.declared.mode.Mode.{Mode}
use Rattle.p21_tokens_automaton.specs.declared.mode.Mode.TheVariants.{Between, Number, Word, Name, Binary}
use Rattle.p21_tokens_automaton.specs.declared.mode.NumberMode.{NumberMode}
use Rattle.p21_tokens_automaton.specs.declared.mode.NumberMode.TheVariants as number
use Rattle.p21_tokens_automaton.specs.declared.mode.WordMode.TheVariants as word
use Rattle.p21_tokens_automaton.specs.declared.mode.Marker.TheVariants.{Begin, Finish}
use Rattle.p21_tokens_automaton.specs.declared.mode.NameMode.TheVariants as name
use Rattle.p21_tokens_automaton.specs.declared.mode.BinaryMode.TheVariants as binary
use Rattle.p21_tokens_automaton.specs.declared.mode.Single.{Single}
use Rattle.p21_tokens_automaton.specs.declared.mode.Single.TheVariants as single
use Rattle.p21_tokens_automaton.specs.declared.mode.Action.TheVariants.{Skip, Keep, Close, End}
use Rattle.p21_scan.proofs.Classes.{digit-decides, upper-decides, keyword_byte-decides, false_from_not}
use Rattle.p21_scan.proofs.HexRuns.{hex_forth}
use Rattle.p21_tokens_automaton.proofs.Steps.{lex-keep, lex-skip, lex-give, lex-close}
use Rattle.p21_tokens_automaton.proofs.Waits.{Waits, IsGiven}

-- further digits make no number smaller
number_front : (xs ys : List ℕ) → number_of xs ≤ number_of (xs ++ ys)
number_front xs ys = omega (arith, number_append xs ys, mul-le-mul_left (number_of xs) (one-le-pow (length ys) 10 (omega arith)))

-- ---- runs of kept bytes

-- the state behind kept bytes
abbrev behind : Mode → List ℕ → State
behind mode front = record { mode = mode; pending_bytes = front; characters = []; size = length front }

-- from one mode these bytes are kept, and lead to another
abbrev Continuation : Mode → List ℕ → Mode → Type 0
Continuation m bytes n = (front rest : List ℕ) → lex (behind m front) (bytes ++ rest) ≡ lex (behind n (front ++ bytes)) rest

goes-nowhere : (m : Mode) → Continuation m [] m
goes-nowhere m front rest = ap (λ (x : List ℕ). lex (behind m x) rest) (sym (append-nil front))

goes-byte : (m n : Mode) (b : ℕ) → advance m b ≡ Keep n → Continuation m (b ∷ []) n
goes-byte m n b e front rest =
    let P : ℕ → Answer = λ k. lex (record { mode = n; pending_bytes = front ++ b ∷ []; characters = []; size = k }) rest in
    lex-keep (behind m front) n b rest e ∙ ap P (sym (length_push front b))

goes-both : (m n o : Mode) (x y : List ℕ) → Continuation m x n → Continuation n y o → Continuation m (x ++ y) o
goes-both m n o x y p q front rest =
    ap (λ (z : List ℕ). lex (behind m front) z) (append_assoc x y rest)
    ∙ (p front (y ++ rest) ∙ (q (front ++ x) rest ∙ ap (λ (z : List ℕ). lex (behind o z) rest) (append_assoc front x y)))

goes-on : (m n o : Mode) (b : ℕ) (bytes : List ℕ) → advance m b ≡ Keep n → Continuation n bytes o → Continuation m (b ∷ bytes) o
goes-on m n o b bytes e p = goes-both m n o (b ∷ []) bytes (goes-byte m n b e) p

goes-round : (P : ℕ → Type 0) (m : Mode) → ((b : ℕ) → P b → advance m b ≡ Keep m) → (bytes : List ℕ) → Each P bytes → Continuation m bytes m
goes-round P m stays [] h = goes-nowhere m
goes-round P m stays (b ∷ bytes) h = goes-on m m m b bytes (stays b h.0) (goes-round P m stays bytes h.1)

waits : (t : Token) (m : Mode) (spelling : List ℕ) → Continuation Between spelling m → ended_token (behind m spelling) ≡ Some (found_of t spelling) → ((b : ℕ) → MayFollow t spelling b → advance m b ≡ End) → Waits t spelling
waits t m spelling goes e ends = record { state = behind m spelling; reaches = goes []; ended_is = e; size_is = refl; ends = ends }

-- ---- keywords

first-upper : (b : ℕ) → IsUpper b → advance Between b ≡ Keep (Word word.Keyword)
first-upper b (inl h) = grind (arith, nat_tests)
first-upper b (inr e) = grind (arith, nat_tests)

goes-keyword : (bytes : List ℕ) → IsKeyword bytes → Continuation Between bytes (Word word.Keyword)
goes-keyword [] h = absurd h
goes-keyword (b ∷ bytes) h =
    goes-on Between (Word word.Keyword) (Word word.Keyword) b bytes (first-upper b h.0) (goes-round IsKeywordByte (Word word.Keyword) (λ c k. rw ((keyword_byte-decides c).1 k) refl) bytes h.1)

pub waits-keyword : (w spelling : List ℕ) → Spells (token.keyword w) spelling → Waits (token.keyword w) spelling
waits-keyword w spelling h =
    waits (token.keyword w) (Word word.Keyword) spelling (subst (λ (x : List ℕ). Continuation Between x (Word word.Keyword)) (sym h.0) (goes-keyword w h.1)) refl (λ b f. rw (false_from_not _ (keyword_byte-decides b) f.0, ne_eqb b 45 f.1) refl)

pub waits-user_keyword : (w spelling : List ℕ) → Spells (token.user_keyword w) spelling → Waits (token.user_keyword w) spelling
waits-user_keyword [] spelling h = absurd h.1
waits-user_keyword (c ∷ w) spelling h =
    let m : Mode = Word word.UserKeyword in
    let goes : Continuation Between (33 ∷ c ∷ w) m =
    goes-on Between (Word word.Exclamation) m 33 (c ∷ w) refl (goes-on (Word word.Exclamation) m m c w (rw ((upper-decides c).1 h.1.0) refl) (goes-round IsKeywordByte m (λ d k. rw ((keyword_byte-decides d).1 k) refl) w h.1.1)) in
    waits (token.user_keyword (c ∷ w)) m spelling (subst (λ (x : List ℕ). Continuation Between x m) (sym h.0) goes) refl (λ b f. rw (false_from_not _ (keyword_byte-decides b) f.0, ne_eqb b 45 f.1) refl)

-- ---- markers

pub waits-begin : (spelling : List ℕ) → Spells token.begin spelling → Waits token.begin spelling
unfolding lex
waits-begin spelling h =
    subst (λ (x : List ℕ). Waits token.begin x) (sym h)
    (record { state = behind (Word (word.Marked Begin)) (codes "ISO-10303-21"); reaches = λ rest. refl; ended_is = refl; size_is = refl; ends = λ b f. rw (false_from_not _ (keyword_byte-decides b) f) refl })

pub waits-finish : (spelling : List ℕ) → Spells token.finish spelling → Waits token.finish spelling
unfolding lex
waits-finish spelling h =
    subst (λ (x : List ℕ). Waits token.finish x) (sym h)
    (record { state = behind (Word (word.Marked Finish)) (codes "END-ISO-10303-21"); reaches = λ rest. refl; ended_is = refl; size_is = refl; ends = λ b f. rw (false_from_not _ (keyword_byte-decides b) f) refl })

-- ---- tokens that their own last byte ends

pub single-run : (one : Single) (spelling : List ℕ) → Spells (single_token one) spelling → (rest : List ℕ) → lex start (spelling ++ rest) ≡ before (record { found = known (single_token one); size = length spelling }) (lex start rest)
single-run single.Left s h rest = rw h (lex-give start single.Left 40 rest refl)
single-run single.Right s h rest = rw h (lex-give start single.Right 41 rest refl)
single-run single.Comma s h rest = rw h (lex-give start single.Comma 44 rest refl)
single-run single.Semicolon s h rest = rw h (lex-give start single.Semicolon 59 rest refl)
single-run single.Equals s h rest = rw h (lex-give start single.Equals 61 rest refl)
single-run single.Dollar s h rest = rw h (lex-give start single.Dollar 36 rest refl)
single-run single.Star s h rest = rw h (lex-give start single.Star 42 rest refl)

-- bytes that are kept, and one that ends the token
closes : (m : Mode) (front : List ℕ) (b : ℕ) (f : FoundToken) → Continuation Between front m → advance m b ≡ Close → closed_token m (front ++ b ∷ []) ≡ Some f → (spelling : List ℕ) → spelling ≡ front ++ b ∷ [] → (rest : List ℕ) → lex start (spelling ++ rest) ≡ before (record { found = f; size = length spelling }) (lex start rest)
closes m front b f goes e c spelling s rest =
    let P : ℕ → Answer = λ k. before (record { found = f; size = k }) (lex start rest) in
    ap (λ (x : List ℕ). lex start (x ++ rest)) s
    ∙ (ap (λ (x : List ℕ). lex start x) (append_assoc front (b ∷ []) rest)
    ∙ (goes [] (b ∷ rest)
    ∙ (lex-close (behind m front) f b rest e c ∙ ap P (sym (length_push front b) ∙ ap (λ (x : List ℕ). length x) (sym s)))))

pub item-run : (w spelling : List ℕ) → Spells (token.item w) spelling → (rest : List ℕ) → lex start (spelling ++ rest) ≡ before (record { found = spelled item spelling; size = length spelling }) (lex start rest)
item-run [] spelling h rest = absurd h.1
item-run (c ∷ w) spelling h rest =
    let m : Mode = Word word.Item in
    let goes : Continuation Between (46 ∷ c ∷ w) m =
    goes-on Between (Word word.Point) m 46 (c ∷ w) refl (goes-on (Word word.Point) m m c w (rw ((upper-decides c).1 h.1.0) refl) (goes-round IsKeywordByte m (λ d k. rw ((keyword_byte-decides d).1 k) refl) w h.1.1)) in
    closes m (46 ∷ c ∷ w) 46 (spelled item spelling) goes refl (ap (λ (x : List ℕ). Some (spelled item x)) (sym h.0)) spelling h.0 rest

-- ---- numbers

each-digit : (bytes : List ℕ) → AllDigits bytes → Each IsDigit bytes
each-digit [] h = tt
each-digit (b ∷ bytes) h = (h.0, each-digit bytes h.1)

-- the modes behind a digit
stays-mode_behind_digit : (m : NumberMode) → mode_behind_digit (mode_behind_digit m) ≡ mode_behind_digit m
stays-mode_behind_digit number.Sign = refl
stays-mode_behind_digit number.Whole = refl
stays-mode_behind_digit number.Fraction = refl
stays-mode_behind_digit number.Exponent = refl
stays-mode_behind_digit number.ExponentSign = refl
stays-mode_behind_digit number.ExponentDigits = refl

keeps-digit : (m : NumberMode) (b : ℕ) → IsDigit b → advance (Number m) b ≡ Keep (Number (mode_behind_digit m))
keeps-digit m b h = rw ((digit-decides b).1 h) refl

goes-digits : (m : NumberMode) → mode_behind_digit m ≡ m → (bytes : List ℕ) → AllDigits bytes → Continuation (Number m) bytes (Number m)
goes-digits m e bytes h = goes-round IsDigit (Number m) (λ b d. keeps-digit m b d ∙ ap (λ (n : NumberMode). Keep (Number n)) e) bytes (each-digit bytes h)

goes-first_digits : (m : NumberMode) (bytes : List ℕ) → 0 < length bytes → AllDigits bytes → Continuation (Number m) bytes (Number (mode_behind_digit m))
goes-first_digits m [] some h = absurd (omega arith)
goes-first_digits m (b ∷ bytes) some h =
    goes-on (Number m) (Number (mode_behind_digit m)) (Number (mode_behind_digit m)) b bytes (keeps-digit m b h.0) (goes-digits (mode_behind_digit m) (stays-mode_behind_digit m) bytes h.1)

first-digit : (b : ℕ) → IsDigit b → advance Between b ≡ Keep (Number number.Whole)
first-digit b h = grind (arith, nat_tests)

-- a sign or none, and digits
goes-whole : (s : Sign) (bytes : List ℕ) → 0 < length bytes → AllDigits bytes → Continuation Between (sign_bytes s ++ bytes) (Number number.Whole)
goes-whole none [] some h = absurd (omega arith)
goes-whole none (b ∷ bytes) some h = goes-on Between (Number number.Whole) (Number number.Whole) b bytes (first-digit b h.0) (goes-digits number.Whole refl bytes h.1)
goes-whole plus bytes some h = goes-on Between (Number number.Sign) (Number number.Whole) 43 bytes refl (goes-first_digits number.Sign bytes some h)
goes-whole minus bytes some h = goes-on Between (Number number.Sign) (Number number.Whole) 45 bytes refl (goes-first_digits number.Sign bytes some h)

pub waits-whole : (z : ℤ) (spelling : List ℕ) → Spells (token.whole z) spelling → Waits (token.whole z) spelling
waits-whole z spelling h =
    waits (token.whole z) (Number number.Whole) spelling
    (subst (λ (x : List ℕ). Continuation Between x (Number number.Whole)) (sym h.bytes_are) (goes-whole h.sign h.digits h.some_digits h.are_digits))
    refl
    (λ b f. rw (false_from_not _ (digit-decides b) f.0, ne_eqb b 46 f.1) refl)

-- the mode behind what may stand behind a fraction
abbrev behind_power : Exponent → NumberMode
behind_power no_exponent = number.Fraction
behind_power (exponent s digits) = number.ExponentDigits

goes-exponent : (s : Sign) (bytes : List ℕ) → 0 < length bytes → AllDigits bytes → Continuation (Number number.Exponent) (sign_bytes s ++ bytes) (Number number.ExponentDigits)
goes-exponent none bytes some h = goes-first_digits number.Exponent bytes some h
goes-exponent plus bytes some h = goes-on (Number number.Exponent) (Number number.ExponentSign) (Number number.ExponentDigits) 43 bytes refl (goes-first_digits number.ExponentSign bytes some h)
goes-exponent minus bytes some h = goes-on (Number number.Exponent) (Number number.ExponentSign) (Number number.ExponentDigits) 45 bytes refl (goes-first_digits number.ExponentSign bytes some h)

goes-power : (p : Exponent) → IsExponent p → Continuation (Number number.Fraction) (exponent_bytes p) (Number (behind_power p))
goes-power no_exponent h = goes-nowhere (Number number.Fraction)
goes-power (exponent s digits) h = goes-on (Number number.Fraction) (Number number.Exponent) (Number number.ExponentDigits) 69 (sign_bytes s ++ digits) refl (goes-exponent s digits h.0 h.1)

goes-real : (bytes : List ℕ) (form : RealForm bytes) → Continuation Between bytes (Number (behind_power form.power))
goes-real bytes form =
    let m : Mode = Number (behind_power form.power) in
    let tail = goes-both (Number number.Fraction) (Number number.Fraction) m form.fraction (exponent_bytes form.power) (goes-digits number.Fraction refl form.fraction form.are_fraction_digits) (goes-power form.power form.is_exponent) in
    let point = goes-on (Number number.Whole) (Number number.Fraction) m 46 (form.fraction ++ exponent_bytes form.power) refl tail in
    let all = goes-both Between (Number number.Whole) m (sign_bytes form.sign ++ form.whole) (46 ∷ (form.fraction ++ exponent_bytes form.power)) (goes-whole form.sign form.whole form.some_digits form.are_digits) point in
    subst (λ (x : List ℕ). Continuation Between x m) (append_assoc (sign_bytes form.sign) form.whole (46 ∷ (form.fraction ++ exponent_bytes form.power)) ∙ sym form.bytes_are) all

real-ended_token : (d : Decimal) (p : Exponent) (spelling : List ℕ) → ended_token (behind (Number (behind_power p)) spelling) ≡ Some (found_of (token.real d) spelling)
real-ended_token d no_exponent spelling = refl
real-ended_token d (exponent s digits) spelling = refl

real-ends : (p : Exponent) (b : ℕ) → ¬ IsDigit b → (p ≡ no_exponent → b ≢ 69) → advance (Number (behind_power p)) b ≡ End
real-ends no_exponent b n e = rw (false_from_not _ (digit-decides b) n, ne_eqb b 69 (e refl)) refl
real-ends (exponent s digits) b n e = rw (false_from_not _ (digit-decides b) n) refl

-- whether the number is in range or not
pub waits-form : (d : Decimal) (spelling : List ℕ) → RealForm spelling → Waits (token.real d) spelling
waits-form d spelling form =
    waits (token.real d) (Number (behind_power form.power)) spelling (goes-real spelling form) (real-ended_token d form.power spelling) (λ b f. real-ends form.power b f.0 (λ e. f.1 (form, e)))

pub waits-real : (d : Decimal) (spelling : List ℕ) → Spells (token.real d) spelling → Waits (token.real d) spelling
waits-real d spelling h = waits-form d spelling h.form

-- ---- names

-- the state behind `#` and digits, of which only their number is kept
abbrev behind_digits : List ℕ → State
behind_digits front = record { mode = Name (name.Digits (number_of front)); pending_bytes = []; characters = []; size = suc (length front) }

-- one digit more
pub number-more : (front : List ℕ) (b : ℕ) → number_of (front ++ b ∷ []) ≡ number_of front * 10 + (b - 48)
number-more front b = number_append front (b ∷ []) ∙ omega arith

skips-digit : (value b : ℕ) → IsDigit b → value * 10 + (b - 48) < 2 ^ 64 → advance (Name (name.Digits value)) b ≡ Skip (Name (name.Digits (value * 10 + (b - 48))))
skips-digit value b d h = rw ((digit-decides b).1 d, lt-ltb _ _ h) refl

skips-first_digit : (b : ℕ) → IsDigit b → advance (Name name.Hash) b ≡ Skip (Name (name.Digits (0 * 10 + (b - 48))))
skips-first_digit b d = rw ((digit-decides b).1 d, lt-ltb (0 * 10 + (b - 48)) (2 ^ 64) (omega (arith, d))) refl

name-digits : (bytes front : List ℕ) → AllDigits bytes → number_of (front ++ bytes) < 2 ^ 64 → (rest : List ℕ) → lex (behind_digits front) (bytes ++ rest) ≡ lex (behind_digits (front ++ bytes)) rest
name-digits [] front h r rest = ap (λ (x : List ℕ). lex (behind_digits x) rest) (sym (append-nil front))
name-digits (b ∷ bytes) front h r rest =
    let joined : (front ++ b ∷ []) ++ bytes ≡ front ++ b ∷ bytes = append_assoc front (b ∷ []) bytes in
    let value = number-more front b in
    let small : number_of (front ++ b ∷ []) < 2 ^ 64 = lt_of_le_of_lt (number_front (front ++ b ∷ []) bytes) (subst (λ (x : List ℕ). number_of x < 2 ^ 64) (sym joined) r) in
    let P : ℕ → ℕ → Answer = λ v k. lex (record { mode = Name (name.Digits v); pending_bytes = []; characters = []; size = k }) (bytes ++ rest) in
    lex-skip (behind_digits front) (Name (name.Digits (number_of front * 10 + (b - 48)))) b (bytes ++ rest) (skips-digit (number_of front) b h.0 (subst (λ (v : ℕ). v < 2 ^ 64) value small))
    ∙ (ap₂ P (sym value) (let e = length_push front b in omega arith)
    ∙ (name-digits bytes (front ++ b ∷ []) h.1 (subst (λ (x : List ℕ). number_of x < 2 ^ 64) (sym joined) r) rest ∙ ap (λ (x : List ℕ). lex (behind_digits x) rest) joined))

name-run : (bytes : List ℕ) → 0 < length bytes → AllDigits bytes → number_of bytes < 2 ^ 64 → (rest : List ℕ) → lex start (35 ∷ (bytes ++ rest)) ≡ lex (behind_digits bytes) rest
name-run [] some h r rest = absurd (omega arith)
name-run (b ∷ bytes) some h r rest =
    let P : ℕ → Answer = λ v. lex (record { mode = Name (name.Digits v); pending_bytes = []; characters = []; size = 2 }) (bytes ++ rest) in
    let hash : State = record { mode = Name name.Hash; pending_bytes = []; characters = []; size = 1 } in
    lex-skip start (Name name.Hash) 35 (b ∷ (bytes ++ rest)) refl
    ∙ (lex-skip hash (Name (name.Digits (0 * 10 + (b - 48)))) b (bytes ++ rest) (skips-first_digit b h.0)
    ∙ (ap P (sym (number-more [] b)) ∙ name-digits bytes (b ∷ []) h.1 r rest))

pub waits-name : (n : ℕ) (spelling : List ℕ) → Spells (token.name n) spelling → Waits (token.name n) spelling
waits-name n spelling h =
    let digits = h.form.digits in
    record {
      state = behind_digits digits;
      reaches = λ rest. ap (λ (x : List ℕ). lex start (x ++ rest)) h.form.bytes_are ∙ name-run digits h.form.some_digits h.form.are_digits (subst (λ (v : ℕ). v < 2 ^ 64) h.value_is h.in_range) rest;
      ended_is = ap (λ (v : ℕ). Some (known (token.name v))) (sym h.value_is);
      size_is = ap (λ (x : List ℕ). length x) (sym h.form.bytes_are);
      ends = λ b f. rw (false_from_not _ (digit-decides b) f) refl;
    }

-- ---- bits

low-half : (n : ℕ) → n < 16 → has_bit 8 n ≡ false → n < 8
low-half n h e = grind (arith, nat_tests)

low-quarter : (n : ℕ) → n < 8 → has_bit 4 n ≡ false → n < 4
low-quarter n h e = grind (arith, nat_tests)

low-eighth : (n : ℕ) → n < 4 → has_bit 2 n ≡ false → n < 2
low-eighth n h e = grind (arith, nat_tests)

first-bit : (a b : Bool) (x y : List Bool) → a ∷ x ≡ b ∷ y → a ≡ b
first-bit a b x y e = cc

further-bits : (a b : Bool) (x y : List Bool) → a ∷ x ≡ b ∷ y → x ≡ y
further-bits a b x y e = cc

-- the padding bits of the first hex digit are zero
room-for_padding : (padding n : ℕ) (digits : List ℕ) (value : List Bool) → padding < 4 → n < 16 → flat_map four_bits (n ∷ digits) ≡ replicate padding false ++ value → has_zero_padding padding n ≡ true
room-for_padding zero n digits value p h e = lt-ltb n 16 h
room-for_padding (suc zero) n digits value p h e = lt-ltb n 8 (low-half n h (first-bit _ _ _ _ e))
room-for_padding (suc (suc zero)) n digits value p h e = lt-ltb n 4 (low-quarter n (low-half n h (first-bit _ _ _ _ e)) (first-bit _ _ _ _ (further-bits _ _ _ _ e)))
room-for_padding (suc (suc (suc zero))) n digits value p h e =
    let rest = further-bits _ _ _ _ e in
    lt-ltb n 2 (low-eighth n (low-quarter n (low-half n h (first-bit _ _ _ _ e)) (first-bit _ _ _ _ rest)) (first-bit _ _ _ _ (further-bits _ _ _ _ rest)))
room-for_padding (suc (suc (suc (suc padding)))) n digits value p h e = absurd (omega arith)

no-padding : (padding : ℕ) (value : List Bool) → [] ≡ replicate padding false ++ value → padding ≡ 0
no-padding zero value e = refl
no-padding (suc padding) value e = cc

keeps-hex : (n : ℕ) → n < 16 → advance (Binary binary.Hex) (hex_digit n) ≡ Keep (Binary binary.Hex)
keeps-hex n h = rw ((hex_forth n h).0) refl

keeps-first_hex : (padding n : ℕ) → n < 16 → has_zero_padding padding n ≡ true → advance (Binary (binary.Padding padding)) (hex_digit n) ≡ Keep (Binary binary.Hex)
keeps-first_hex padding n h e = let own = hex_forth n h in rw (own.0, own.1, e) refl

keeps-padding : (padding : ℕ) → padding < 4 → advance (Binary binary.Quote) (48 + padding) ≡ Keep (Binary (binary.Padding padding))
keeps-padding padding h = grind (arith, nat_tests)

goes-hex : (digits : List ℕ) → Each (λ n. n < 16) digits → Continuation (Binary binary.Hex) (map hex_digit digits) (Binary binary.Hex)
goes-hex [] h = goes-nowhere (Binary binary.Hex)
goes-hex (n ∷ digits) h = goes-on (Binary binary.Hex) (Binary binary.Hex) (Binary binary.Hex) (hex_digit n) (map hex_digit digits) (keeps-hex n h.0) (goes-hex digits h.1)

goes-quote : (padding : ℕ) → padding < 4 → (bytes : List ℕ) (m : Mode) → Continuation (Binary (binary.Padding padding)) bytes m → Continuation Between (34 ∷ (48 + padding) ∷ bytes) m
goes-quote padding h bytes m goes =
    goes-on Between (Binary binary.Quote) m 34 ((48 + padding) ∷ bytes) refl (goes-on (Binary binary.Quote) (Binary (binary.Padding padding)) m (48 + padding) bytes (keeps-padding padding h) goes)

bits-closes : (padding : ℕ) (digits : List ℕ) (value : List Bool) → padding < 4 → Each (λ n. n < 16) digits → flat_map four_bits digits ≡ replicate padding false ++ value → (spelling : List ℕ) → spelling ≡ 34 ∷ (48 + padding) ∷ (map hex_digit digits ++ (34 ∷ [])) → (rest : List ℕ) → lex start (spelling ++ rest) ≡ before (record { found = spelled bits spelling; size = length spelling }) (lex start rest)
bits-closes padding [] value p h e spelling s rest =
    let none_left = no-padding padding value e in
    let m : Mode = Binary (binary.Padding padding) in
    closes m (34 ∷ (48 + padding) ∷ []) 34 (spelled bits spelling) (goes-quote padding p [] m (goes-nowhere m)) (rw none_left refl) (ap (λ (x : List ℕ). Some (spelled bits x)) (sym s)) spelling s rest
bits-closes padding (n ∷ digits) value p h e spelling s rest =
    let m : Mode = Binary binary.Hex in
    let first = keeps-first_hex padding n h.0 (room-for_padding padding n digits value p h.0 e) in
    let goes = goes-on (Binary (binary.Padding padding)) m m (hex_digit n) (map hex_digit digits) first (goes-hex digits h.1) in
    closes m (34 ∷ (48 + padding) ∷ map hex_digit (n ∷ digits)) 34 (spelled bits spelling) (goes-quote padding p (map hex_digit (n ∷ digits)) m goes) refl (ap (λ (x : List ℕ). Some (spelled bits x)) (sym s)) spelling s rest

pub bits-run : (value : List Bool) (spelling : List ℕ) → Spells (token.bits value) spelling → (rest : List ℕ) → lex start (spelling ++ rest) ≡ before (record { found = spelled bits spelling; size = length spelling }) (lex start rest)
bits-run value spelling h rest = bits-closes h.padding h.hex_values value h.padding_is h.are_hex_values h.value_is spelling h.bytes_are rest

-- ---- every token

-- every token is read as it is spelled, if strings are
pub token-readings : ((characters spelling : List ℕ) → Spells (token.text characters) spelling → Waits (token.text characters) spelling) → (t : Token) (spelling : List ℕ) → Spells t spelling → Waits t spelling ⊎ IsGiven t spelling
token-readings waits-text token.begin spelling h = inl (waits-begin spelling h)
token-readings waits-text token.finish spelling h = inl (waits-finish spelling h)
token-readings waits-text (token.keyword w) spelling h = inl (waits-keyword w spelling h)
token-readings waits-text (token.user_keyword w) spelling h = inl (waits-user_keyword w spelling h)
token-readings waits-text (token.name n) spelling h = inl (waits-name n spelling h)
token-readings waits-text (token.whole z) spelling h = inl (waits-whole z spelling h)
token-readings waits-text (token.real d) spelling h = inl (waits-real d spelling h)
token-readings waits-text (token.text characters) spelling h = inl (waits-text characters spelling h)
token-readings waits-text (token.item w) spelling h = inr (record { run = item-run w spelling h })
token-readings waits-text (token.bits value) spelling h = inr (record { run = bits-run value spelling h })
token-readings waits-text token.left spelling h = inr (record { run = single-run single.Left spelling h })
token-readings waits-text token.right spelling h = inr (record { run = single-run single.Right spelling h })
token-readings waits-text token.comma spelling h = inr (record { run = single-run single.Comma spelling h })
token-readings waits-text token.semicolon spelling h = inr (record { run = single-run single.Semicolon spelling h })
token-readings waits-text token.equals spelling h = inr (record { run = single-run single.Equals spelling h })
token-readings waits-text token.dollar spelling h = inr (record { run = single-run single.Dollar spelling h })
token-readings waits-text token.star spelling h = inr (record { run = single-run single.Star spelling h })
