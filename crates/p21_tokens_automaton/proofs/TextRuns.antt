-- A string that its bytes spell is read byte by byte up to its end.
use Rattle.std.proofs.Common.{◌≡◌, ◌≢◌, ℕ, zero, suc, ◌+◌, ◌-◌, ◌*◌, ◌/◌, ◌%◌, ◌^◌, ◌<◌, ◌≤◌, ◌⊎◌, false, List, [], ◌∷◌, ◌++◌, length, inl, inr, refl, sym, ap, ◌∙◌, subst, append_assoc, append-nil, arith, length-append, lit<, lit≤, lt-ltb, le-leb}
use Rattle.std.specs.Prelude.{◌==◌, nat_le, ◌&&◌}
use Rattle.std.specs.Char.{IsScalar, encode_utf8}
use Rattle.std.specs.List.{flat_map, AllByRecursion as Each}
use Rattle.std.proofs.Math.Nat.{pow-suc}
use Rattle.std.proofs.lemmas.Bool.{cases_lt, cases_eq}
use Rattle.std.proofs.lemmas.Bool.Decides.{nat_tests}
use lib.Utf8.{scalar_cases}
use Rattle.p21_spec_basics.specs.Digits.{hex_digit, hex_digits}
use Rattle.p21_spec_exchange.specs.Text.{StringUnit, ignored, plain, doubled, high_codepoint, page, alphabet_a, arbitrary, extended2, extended4, IsApostropheOrBackslash, IsStringUnit, end_extended, unit_bytes, unit_characters, utf16_groups, Encodes}
use Rattle.p21_tokens_automaton.specs.Step.{text_action, utf8_action, utf8_value, group_action, low_group_action, put_scalar, group_value, long_value}
use Rattle.p21_tokens_automaton.specs.Reading.{State, start, skip, lex}
use Rattle.p21_tokens_automaton.specs.declared.mode.Mode.TheVariants.{Text}
use Rattle.p21_tokens_automaton.specs.declared.mode.TextMode.{TextMode}
use Rattle.p21_tokens_automaton.specs.declared.mode.TextMode.TheVariants as text_mode
use Rattle.p21_tokens_automaton.specs.declared.mode.Action.{Action}
use Rattle.p21_tokens_automaton.specs.declared.mode.Action.TheVariants.{Skip, Put}
use Rattle.p21_scan.proofs.HexRuns.{hex_forth}
use Rattle.p21_tokens_automaton.proofs.HexDigits.{power-small}
use Rattle.p21_tokens_automaton.proofs.Utf8.{encode-two, encode-three, encode-four}
use Rattle.p21_tokens_automaton.proofs.Utf16.{groups-one, groups-pair}
use Rattle.p21_tokens_automaton.proofs.Steps.{lex-skip, lex-put}

-- inside a string, behind bytes that stand for these characters
abbrev pub in_text : List ℕ → TextMode → List ℕ → ℕ → State
in_text pending_bytes m characters size = record { mode = Text m; pending_bytes = pending_bytes; characters = characters; size = size }

-- from one state over these bytes to another
abbrev pub Runs : TextMode → List ℕ → List ℕ → TextMode → List ℕ → Type 0
Runs m characters bytes next after = (pending_bytes : List ℕ) (size : ℕ) (rest : List ℕ) → lex (in_text pending_bytes m characters size) (bytes ++ rest) ≡ lex (in_text pending_bytes next after (size + length bytes)) rest

resize : (pending_bytes : List ℕ) (m : TextMode) (characters rest : List ℕ) (size other : ℕ) → size ≡ other → lex (in_text pending_bytes m characters size) rest ≡ lex (in_text pending_bytes m characters other) rest
resize pending_bytes m characters rest size other e = ap (λ n. lex (in_text pending_bytes m characters n) rest) e

pub runs-none : (m : TextMode) (characters : List ℕ) → Runs m characters [] m characters
runs-none m characters pending_bytes size rest = resize pending_bytes m characters rest size (size + 0) (omega arith)

pub runs-join : (m n k : TextMode) (a b c xs ys : List ℕ) → Runs m a xs n b → Runs n b ys k c → Runs m a (xs ++ ys) k c
runs-join m n k a b c xs ys h g pending_bytes size rest =
    (ap (λ x. lex (in_text pending_bytes m a size) x) (append_assoc xs ys rest) ∙ h pending_bytes size (ys ++ rest))
    ∙ (g pending_bytes (size + length xs) rest ∙ resize pending_bytes k c rest (size + length xs + length ys) (size + length (xs ++ ys)) (simp length-append (omega arith)))

-- a byte that gives no character, and one that gives one, in front
runs-skip : (m n k : TextMode) (a c ys : List ℕ) (byte : ℕ) → text_action m byte ≡ Skip (Text n) → Runs n a ys k c → Runs m a (byte ∷ ys) k c
runs-skip m n k a c ys byte e g pending_bytes size rest =
    lex-skip (in_text pending_bytes m a size) (Text n) byte (ys ++ rest) e ∙ (g pending_bytes (size + 1) rest ∙ resize pending_bytes k c rest (size + 1 + length ys) (size + length (byte ∷ ys)) (omega arith))

runs-put : (m n k : TextMode) (a c ys : List ℕ) (byte character : ℕ) → text_action m byte ≡ Put (Text n) character → Runs n (a ++ character ∷ []) ys k c → Runs m a (byte ∷ ys) k c
runs-put m n k a c ys byte character e g pending_bytes size rest =
    lex-put (in_text pending_bytes m a size) (Text n) character byte (ys ++ rest) e ∙ (g pending_bytes (size + 1) rest ∙ resize pending_bytes k c rest (size + 1 + length ys) (size + length (byte ∷ ys)) (omega arith))

last-skip : (m n : TextMode) (a : List ℕ) (byte : ℕ) → text_action m byte ≡ Skip (Text n) → Runs m a (byte ∷ []) n a
last-skip m n a byte e = runs-skip m n n a a [] byte e (runs-none n a)

pub last-put : (m n : TextMode) (a : List ℕ) (byte character : ℕ) → text_action m byte ≡ Put (Text n) character → Runs m a (byte ∷ []) n (a ++ character ∷ [])
last-put m n a byte character e = runs-put m n n a (a ++ character ∷ []) [] byte character e (runs-none n (a ++ character ∷ []))

-- One byte

scalar-below : (c : ℕ) → IsScalar c → c < 1114112
scalar-below c h = elim (scalar_cases c h) [ inl k ↦ omega arith | inr k ↦ k.1 ]

ignored-byte : (b : ℕ) → (b < 32) ⊎ (b ≡ 127) → text_action text_mode.Inside b ≡ Skip (Text text_mode.Inside)
ignored-byte b h = grind (arith, nat_tests)

plain-byte : (b : ℕ) → 32 ≤ b → b ≤ 126 → (b ≢ 39) → (b ≢ 92) → text_action text_mode.Inside b ≡ Put (Text text_mode.Inside) b
plain-byte b h k m n = grind (arith, nat_tests)

high-byte : (b : ℕ) → 128 ≤ b → text_action text_mode.Inside b ≡ utf8_action b
high-byte b h = grind (arith, nat_tests)

page-byte : (b : ℕ) → 32 ≤ b → b ≤ 126 → text_action text_mode.Page b ≡ Put (Text text_mode.Inside) (b + 128)
page-byte b h k = grind (arith, nat_tests)

two-byte : (b : ℕ) → 194 ≤ b → b ≤ 223 → utf8_action b ≡ Skip (Text (text_mode.Utf8Last (b % 32)))
two-byte b h k = grind (arith, nat_tests)

three-byte : (b : ℕ) → 225 ≤ b → b ≤ 239 → (b ≢ 237) → utf8_action b ≡ Skip (Text (text_mode.Utf8Second 0x80 0xBF (b % 16)))
three-byte b h k n = grind (arith, nat_tests)

four-byte : (b : ℕ) → 241 ≤ b → b ≤ 243 → utf8_action b ≡ Skip (Text (text_mode.Utf8Third 0x80 0xBF (b % 8)))
four-byte b h k = grind (arith, nat_tests)

last-byte : (value b c : ℕ) → 0x80 ≤ b → b ≤ 0xBF → utf8_value value b ≡ c → IsScalar c → text_action (text_mode.Utf8Last value) b ≡ Put (Text text_mode.Inside) c
last-byte value b c h k e s = rw (le-leb 0x80 b h, le-leb b 0xBF k, e, s) refl

second-byte : (low high value b : ℕ) → low ≤ b → b ≤ high → text_action (text_mode.Utf8Second low high value) b ≡ Skip (Text (text_mode.Utf8Last (utf8_value value b)))
second-byte low high value b h k = rw (le-leb low b h, le-leb b high k) refl

third-byte : (low high value b : ℕ) → low ≤ b → b ≤ high → text_action (text_mode.Utf8Third low high value) b ≡ Skip (Text (text_mode.Utf8Second 0x80 0xBF (utf8_value value b)))
third-byte low high value b h k = rw (le-leb low b h, le-leb b high k) refl

-- Rows of hex digits

module _ (digits : ℕ → ℕ → TextMode) (first : TextMode) (limit : ℕ) (characters : List ℕ)
    (one : (digit : ℕ) → digit < 16 → text_action first (hex_digit digit) ≡ Skip (Text (digits 1 digit)))
    (more : (count value digit : ℕ) → count < limit → value < 16 ^ count → digit < 16 → text_action (digits count value) (hex_digit digit) ≡ Skip (Text (digits (count + 1) (value * 16 + digit))))
  where
    digits-run : (count value : ℕ) → count < limit → value < 16 ^ suc count → Runs first characters (hex_digits (suc count) value) (digits (suc count) value) characters
    digits-run zero value h k =
        let same : value % 16 ≡ value = omega arith in
        subst (λ v. Runs first characters (hex_digit (value % 16) ∷ []) (digits 1 v) characters) same (last-skip first (digits 1 (value % 16)) characters (hex_digit (value % 16)) (one (value % 16) (omega arith)))
    digits-run (suc count) value h k =
        let power = pow-suc 16 (suc count) in
        let small : value / 16 < 16 ^ suc count = omega arith in
        let same : value / 16 * 16 + value % 16 ≡ value = omega arith in
        let next : suc count + 1 ≡ suc (suc count) = omega arith in
        let step : Skip (Text (digits (suc count + 1) (value / 16 * 16 + value % 16))) ≡ Skip (Text (digits (suc (suc count)) value)) = rw (next, same) refl in
        runs-join first (digits (suc count) (value / 16)) (digits (suc (suc count)) value) characters characters characters (hex_digits (suc count) (value / 16)) (hex_digit (value % 16) ∷ [])
        (digits-run count (value / 16) (omega arith) small)
        (last-skip (digits (suc count) (value / 16)) (digits (suc (suc count)) value) characters (hex_digit (value % 16)) (more (suc count) (value / 16) (value % 16) h small (omega arith) ∙ step))

-- what the first digit of a group does
abbrev Begins : (ℕ → ℕ → TextMode) → TextMode → Type 0
Begins digits m = (digit : ℕ) → digit < 16 → text_action m (hex_digit digit) ≡ Skip (Text (digits 1 digit))

first2 : Begins text_mode.Extended2Digits text_mode.Extended2First
first2 digit h = rw ((hex_forth digit h).0, (hex_forth digit h).1) refl

no_backslash : (digit : ℕ) → digit < 16 → (hex_digit digit == 92) ≡ false
no_backslash digit h = grind (arith, nat_tests)

next2 : Begins text_mode.Extended2Digits text_mode.Extended2Next
next2 digit h = rw (no_backslash digit h, (hex_forth digit h).0, (hex_forth digit h).1) refl

first4 : Begins text_mode.Extended4Digits text_mode.Extended4First
first4 digit h = rw ((hex_forth digit h).0, (hex_forth digit h).1) refl

next4 : Begins text_mode.Extended4Digits text_mode.Extended4Next
next4 digit h = rw (no_backslash digit h, (hex_forth digit h).0, (hex_forth digit h).1) refl

low_first : (high : ℕ) → Begins (text_mode.LowDigits high) (text_mode.LowFirst high)
low_first high digit h = rw ((hex_forth digit h).0, (hex_forth digit h).1) refl

group_value-at : (count value digit : ℕ) → count ≤ 3 → value < 16 ^ count → digit < 16 → group_value value (hex_digit digit) ≡ value * 16 + digit
group_value-at count value digit h k m =
    let small : value < 4096 = power-small 3 count value h k in
    let same : value % 4096 ≡ value = omega arith in
    rw ((hex_forth digit m).1, same) refl

long_value-at : (count value digit : ℕ) → count ≤ 7 → value < 16 ^ count → digit < 16 → long_value value (hex_digit digit) ≡ value * 16 + digit
long_value-at count value digit h k m =
    let small : value < 268435456 = power-small 7 count value h k in
    let same : value % 268435456 ≡ value = omega arith in
    rw ((hex_forth digit m).1, same) refl

more2 : (count value digit : ℕ) → count < 3 → value < 16 ^ count → digit < 16 → text_action (text_mode.Extended2Digits count value) (hex_digit digit) ≡ Skip (Text (text_mode.Extended2Digits (count + 1) (value * 16 + digit)))
more2 count value digit h k m = rw ((hex_forth digit m).0, lt-ltb count 3 h) (ap (λ v. Skip (Text (text_mode.Extended2Digits (count + 1) v))) (group_value-at count value digit (omega arith) k m))

more_low : (high count value digit : ℕ) → count < 3 → value < 16 ^ count → digit < 16 → text_action (text_mode.LowDigits high count value) (hex_digit digit) ≡ Skip (Text (text_mode.LowDigits high (count + 1) (value * 16 + digit)))
more_low high count value digit h k m = rw ((hex_forth digit m).0, lt-ltb count 3 h) (ap (λ v. Skip (Text (text_mode.LowDigits high (count + 1) v))) (group_value-at count value digit (omega arith) k m))

more4 : (count value digit : ℕ) → count < 7 → value < 16 ^ count → digit < 16 → text_action (text_mode.Extended4Digits count value) (hex_digit digit) ≡ Skip (Text (text_mode.Extended4Digits (count + 1) (value * 16 + digit)))
more4 count value digit h k m = rw ((hex_forth digit m).0, lt-ltb count 7 h) (ap (λ v. Skip (Text (text_mode.Extended4Digits (count + 1) v))) (long_value-at count value digit (omega arith) k m))

last2 : (value digit : ℕ) → value < 4096 → digit < 16 → text_action (text_mode.Extended2Digits 3 value) (hex_digit digit) ≡ group_action (value * 16 + digit)
last2 value digit h k = rw ((hex_forth digit k).0) (ap group_action (group_value-at 3 value digit (lit≤ tt) h k))

last_low : (high value digit : ℕ) → value < 4096 → digit < 16 → text_action (text_mode.LowDigits high 3 value) (hex_digit digit) ≡ low_group_action high (value * 16 + digit)
last_low high value digit h k = rw ((hex_forth digit k).0) (ap (λ v. low_group_action high v) (group_value-at 3 value digit (lit≤ tt) h k))

last4 : (value digit : ℕ) → value < 268435456 → digit < 16 → text_action (text_mode.Extended4Digits 7 value) (hex_digit digit) ≡ put_scalar text_mode.Extended4Next (value * 16 + digit)
last4 value digit h k = rw ((hex_forth digit k).0) (ap (λ v. put_scalar text_mode.Extended4Next v) (long_value-at 7 value digit (lit≤ tt) h k))

-- Whole groups

group_action-scalar : (c : ℕ) → IsScalar c → group_action c ≡ Put (Text text_mode.Extended2Next) c
group_action-scalar c h = rw (no_high c (scalar_cases c h), h) refl
  where
    no_high : (c : ℕ) → (c < 55296) ⊎ ((57344 ≤ c) × (c < 1114112)) → (nat_le 0xD800 c && nat_le c 0xDBFF) ≡ false
    no_high c k = grind (arith, nat_tests)

group_action-high : (c : ℕ) → 0xD800 ≤ c → c ≤ 0xDBFF → group_action c ≡ Skip (Text (text_mode.LowFirst c))
group_action-high c h k = rw (le-leb 0xD800 c h, le-leb c 0xDBFF k) refl

low_group_action-at : (high low c : ℕ) → 0xDC00 ≤ low → low ≤ 0xDFFF → 65536 + (high % 1024) * 1024 + low % 1024 ≡ c → IsScalar c → low_group_action high low ≡ Put (Text text_mode.Extended2Next) c
low_group_action-at high low c h k e s = rw (le-leb 0xDC00 low h, le-leb low 0xDFFF k, e, s) refl

-- four digits from one state of groups on, ended by what the whole group does
group_action-run : (m next : TextMode) (a b : List ℕ) (c : ℕ) → Begins text_mode.Extended2Digits m → c < 65536
    → ((digit : ℕ) → text_action (text_mode.Extended2Digits 3 (c / 16)) digit ≡ group_action c → Runs (text_mode.Extended2Digits 3 (c / 16)) a (digit ∷ []) next b)
    → Runs m a (hex_digits 4 c) next b
group_action-run m next a b c begins small last =
    let part : c / 16 < 4096 = omega arith in
    let same : c / 16 * 16 + c % 16 ≡ c = omega arith in
    runs-join m (text_mode.Extended2Digits 3 (c / 16)) next a a b (hex_digits 3 (c / 16)) (hex_digit (c % 16) ∷ [])
    (digits-run text_mode.Extended2Digits m 3 a begins more2 2 (c / 16) (lit< tt) part)
    (last (hex_digit (c % 16)) (last2 (c / 16) (c % 16) part (omega arith) ∙ ap group_action same))

low_group_action-run : (high : ℕ) (next : TextMode) (a b : List ℕ) (c : ℕ) → c < 65536
    → ((digit : ℕ) → text_action (text_mode.LowDigits high 3 (c / 16)) digit ≡ low_group_action high c → Runs (text_mode.LowDigits high 3 (c / 16)) a (digit ∷ []) next b)
    → Runs (text_mode.LowFirst high) a (hex_digits 4 c) next b
low_group_action-run high next a b c small last =
    let part : c / 16 < 4096 = omega arith in
    let same : c / 16 * 16 + c % 16 ≡ c = omega arith in
    runs-join (text_mode.LowFirst high) (text_mode.LowDigits high 3 (c / 16)) next a a b (hex_digits 3 (c / 16)) (hex_digit (c % 16) ∷ [])
    (digits-run (text_mode.LowDigits high) (text_mode.LowFirst high) 3 a (low_first high) (more_low high) 2 (c / 16) (lit< tt) part)
    (last (hex_digit (c % 16)) (last_low high (c / 16) (c % 16) part (omega arith) ∙ ap (λ v. low_group_action high v) same))

utf16-run : (m : TextMode) → Begins text_mode.Extended2Digits m → (c : ℕ) → IsScalar c → (a : List ℕ) → Runs m a (utf16_groups c) text_mode.Extended2Next (a ++ c ∷ [])
utf16-run m begins c s a = elim (cases_lt c 65536) [ inl h ↦ one h | inr h ↦ pair h ]
  where
    one : c < 65536 → Runs m a (utf16_groups c) text_mode.Extended2Next (a ++ c ∷ [])
    one h =
        subst (λ x. Runs m a x text_mode.Extended2Next (a ++ c ∷ [])) (sym (groups-one c h))
        (group_action-run m text_mode.Extended2Next a (a ++ c ∷ []) c begins h
        (λ digit e. last-put (text_mode.Extended2Digits 3 (c / 16)) text_mode.Extended2Next a digit c (e ∙ group_action-scalar c s)))

    pair : 65536 ≤ c → Runs m a (utf16_groups c) text_mode.Extended2Next (a ++ c ∷ [])
    pair h =
        let below : c < 1114112 = scalar-below c s in
        let high = 0xD800 + (c - 65536) / 1024 in
        let low = 0xDC00 + (c - 65536) % 1024 in
        let high_small : high ≤ 0xDBFF = omega arith in
        let low_small : low ≤ 0xDFFF = omega arith in
        let same : 65536 + (high % 1024) * 1024 + low % 1024 ≡ c = omega arith in
        subst (λ x. Runs m a x text_mode.Extended2Next (a ++ c ∷ [])) (sym (groups-pair c h))
        (runs-join m (text_mode.LowFirst high) text_mode.Extended2Next a a (a ++ c ∷ []) (hex_digits 4 high) (hex_digits 4 low)
        (group_action-run m (text_mode.LowFirst high) a a high begins (omega arith) (λ digit e. last-skip (text_mode.Extended2Digits 3 (high / 16)) (text_mode.LowFirst high) a digit (e ∙ group_action-high high (omega arith) high_small)))
        (low_group_action-run high text_mode.Extended2Next a (a ++ c ∷ []) low (omega arith)
        (λ digit e. last-put (text_mode.LowDigits high 3 (low / 16)) text_mode.Extended2Next a digit c (e ∙ low_group_action-at high low c (omega arith) low_small same s))))

eight-run : (m : TextMode) → Begins text_mode.Extended4Digits m → (c : ℕ) → IsScalar c → (a : List ℕ) → Runs m a (hex_digits 8 c) text_mode.Extended4Next (a ++ c ∷ [])
eight-run m begins c s a =
    let below : c < 1114112 = scalar-below c s in
    let part : c / 16 < 268435456 = omega arith in
    let same : c / 16 * 16 + c % 16 ≡ c = omega arith in
    let put : put_scalar text_mode.Extended4Next c ≡ Put (Text text_mode.Extended4Next) c = rw s refl in
    runs-join m (text_mode.Extended4Digits 7 (c / 16)) text_mode.Extended4Next a a (a ++ c ∷ []) (hex_digits 7 (c / 16)) (hex_digit (c % 16) ∷ [])
    (digits-run text_mode.Extended4Digits m 7 a begins more4 6 (c / 16) (lit< tt) part)
    (last-put (text_mode.Extended4Digits 7 (c / 16)) text_mode.Extended4Next a (hex_digit (c % 16)) c (last4 (c / 16) (c % 16) part (omega arith) ∙ (ap (λ v. put_scalar text_mode.Extended4Next v) same ∙ put)))

-- Extended directives

module _ (group : ℕ → List ℕ) (first next : TextMode) (from_first : (c : ℕ) → IsScalar c → (a : List ℕ) → Runs first a (group c) next (a ++ c ∷ [])) (from_next : (c : ℕ) → IsScalar c → (a : List ℕ) → Runs next a (group c) next (a ++ c ∷ []))
  where
    groups-more : (cs : List ℕ) → Each IsScalar cs → (a : List ℕ) → Runs next a (flat_map group cs) next (a ++ cs)
    groups-more [] h a = subst (λ x. Runs next a [] next x) (sym (append-nil a)) (runs-none next a)
    groups-more (c ∷ cs) h a =
        subst (λ x. Runs next a (group c ++ flat_map group cs) next x) (append_assoc a (c ∷ []) cs)
        (runs-join next next next a (a ++ c ∷ []) ((a ++ c ∷ []) ++ cs) (group c) (flat_map group cs) (from_next c h.0 a) (groups-more cs h.1 (a ++ c ∷ [])))

    groups-run : (cs : List ℕ) → 0 < length cs → Each IsScalar cs → (a : List ℕ) → Runs first a (flat_map group cs) next (a ++ cs)
    groups-run [] k h a = absurd (omega arith)
    groups-run (c ∷ cs) k h a =
        subst (λ x. Runs first a (group c ++ flat_map group cs) next x) (append_assoc a (c ∷ []) cs)
        (runs-join first next next a (a ++ c ∷ []) ((a ++ c ∷ []) ++ cs) (group c) (flat_map group cs) (from_first c h.0 a) (groups-more cs h.1 (a ++ c ∷ [])))

    extended-run : (mark : ℕ) (opened : TextMode) → text_action text_mode.HexMark mark ≡ Skip (Text opened) → text_action opened 92 ≡ Skip (Text first) → text_action next 92 ≡ Skip (Text text_mode.EndBackslash) → (cs : List ℕ) → 0 < length cs → Each IsScalar cs → (a : List ℕ)
        → Runs text_mode.Inside a (92 ∷ 88 ∷ mark ∷ 92 ∷ (flat_map group cs ++ end_extended)) text_mode.Inside (a ++ cs)
    extended-run mark opened e f g cs k h a =
        let end : List ℕ = end_extended in
        let inside = text_mode.Inside in
        let all = a ++ cs in
        runs-skip inside text_mode.Backslash inside a all (88 ∷ mark ∷ 92 ∷ (flat_map group cs ++ end)) 92 refl
        (runs-skip text_mode.Backslash text_mode.HexMark inside a all (mark ∷ 92 ∷ (flat_map group cs ++ end)) 88 refl
        (runs-skip text_mode.HexMark opened inside a all (92 ∷ (flat_map group cs ++ end)) mark e
        (runs-skip opened first inside a all (flat_map group cs ++ end) 92 f
        (runs-join first next inside a all all (flat_map group cs) end (groups-run cs k h a)
        (runs-skip next text_mode.EndBackslash inside all all (88 ∷ 48 ∷ 92 ∷ []) 92 g
        (runs-skip text_mode.EndBackslash text_mode.EndMark inside all all (48 ∷ 92 ∷ []) 88 refl
        (runs-skip text_mode.EndMark text_mode.EndZero inside all all (92 ∷ []) 48 refl (last-skip text_mode.EndZero inside all 92 refl))))))))

-- Characters in UTF-8

two-run : (c : ℕ) → IsScalar c → 128 ≤ c → c < 2048 → (a : List ℕ) → Runs text_mode.Inside a ((192 + c / 64) ∷ (128 + c % 64) ∷ []) text_mode.Inside (a ++ c ∷ [])
two-run c s h k a =
    let lead = 192 + c / 64 in
    let last = 128 + c % 64 in
    let is : utf8_value (lead % 32) last ≡ c = omega arith in
    runs-skip text_mode.Inside (text_mode.Utf8Last (lead % 32)) text_mode.Inside a (a ++ c ∷ []) (last ∷ []) lead (high-byte lead (omega arith) ∙ two-byte lead (omega arith) (omega arith))
    (last-put (text_mode.Utf8Last (lead % 32)) text_mode.Inside a last c (last-byte (lead % 32) last c (omega arith) (omega arith) is s))

three-end : (c low top value : ℕ) → IsScalar c → text_action text_mode.Inside (224 + c / 4096) ≡ Skip (Text (text_mode.Utf8Second low top value)) → low ≤ 128 + (c / 64) % 64 → 128 + (c / 64) % 64 ≤ top → value ≡ c / 4096 → c < 65536 → (a : List ℕ)
    → Runs text_mode.Inside a ((224 + c / 4096) ∷ (128 + (c / 64) % 64) ∷ (128 + c % 64) ∷ []) text_mode.Inside (a ++ c ∷ [])
three-end c low top value s e from to v below a =
    let second = 128 + (c / 64) % 64 in
    let last = 128 + c % 64 in
    let one : utf8_value value second ≡ c / 64 = omega arith in
    let is : utf8_value (utf8_value value second) last ≡ c = omega arith in
    runs-skip text_mode.Inside (text_mode.Utf8Second low top value) text_mode.Inside a (a ++ c ∷ []) (second ∷ last ∷ []) (224 + c / 4096) e
    (runs-skip (text_mode.Utf8Second low top value) (text_mode.Utf8Last (utf8_value value second)) text_mode.Inside a (a ++ c ∷ []) (last ∷ []) second (second-byte low top value second from to)
    (last-put (text_mode.Utf8Last (utf8_value value second)) text_mode.Inside a last c (last-byte (utf8_value value second) last c (omega arith) (omega arith) is s)))

-- the first byte of three, by its value: at E0 the second byte is A0 or more, and at ED 9F or less
inside-at : (b at : ℕ) (action : Action) → b ≡ at → text_action text_mode.Inside at ≡ action → text_action text_mode.Inside b ≡ action
inside-at b at action e h = ap (λ x. text_action text_mode.Inside x) e ∙ h

three-run : (c : ℕ) → IsScalar c → 2048 ≤ c → c < 65536 → (a : List ℕ) → Runs text_mode.Inside a ((224 + c / 4096) ∷ (128 + (c / 64) % 64) ∷ (128 + c % 64) ∷ []) text_mode.Inside (a ++ c ∷ [])
three-run c s h k a =
    elim (cases_lt c 4096) [
      | inl low ↦ three-end c 0xA0 0xBF 0 s (inside-at (224 + c / 4096) 0xE0 _ (omega arith) refl) (omega arith) (omega arith) (omega arith) k a
      | inr more ↦ elim (cases_eq (224 + c / 4096) 0xED) [
        | inl is ↦ three-end c 0x80 0x9F 13 s (inside-at (224 + c / 4096) 0xED _ is refl) (omega arith) (no_surrogate (scalar_cases c s) is) (omega arith) k a
        | inr other ↦ three-end c 0x80 0xBF ((224 + c / 4096) % 16) s (high-byte (224 + c / 4096) (omega arith) ∙ three-byte (224 + c / 4096) (omega arith) (omega arith) other) (omega arith) (omega arith) (omega arith) k a
      ]
    ]
  where
    no_surrogate : (c < 55296) ⊎ ((57344 ≤ c) × (c < 1114112)) → 224 + c / 4096 ≡ 0xED → 128 + (c / 64) % 64 ≤ 0x9F
    no_surrogate (inl h) e = omega arith
    no_surrogate (inr h) e = omega arith

four-end : (c low top value : ℕ) → IsScalar c → text_action text_mode.Inside (240 + c / 262144) ≡ Skip (Text (text_mode.Utf8Third low top value)) → low ≤ 128 + (c / 4096) % 64 → 128 + (c / 4096) % 64 ≤ top → value ≡ c / 262144 → (a : List ℕ)
    → Runs text_mode.Inside a ((240 + c / 262144) ∷ (128 + (c / 4096) % 64) ∷ (128 + (c / 64) % 64) ∷ (128 + c % 64) ∷ []) text_mode.Inside (a ++ c ∷ [])
four-end c low top value s e from to v a =
    let below : c < 1114112 = scalar-below c s in
    let second = 128 + (c / 4096) % 64 in
    let third = 128 + (c / 64) % 64 in
    let last = 128 + c % 64 in
    let one : utf8_value value second ≡ c / 4096 = omega arith in
    let two : utf8_value (utf8_value value second) third ≡ c / 64 = omega arith in
    let is : utf8_value (utf8_value (utf8_value value second) third) last ≡ c = omega arith in
    let inside = text_mode.Inside in
    runs-skip inside (text_mode.Utf8Third low top value) inside a (a ++ c ∷ []) (second ∷ third ∷ last ∷ []) (240 + c / 262144) e
    (runs-skip (text_mode.Utf8Third low top value) (text_mode.Utf8Second 0x80 0xBF (utf8_value value second)) inside a (a ++ c ∷ []) (third ∷ last ∷ []) second (third-byte low top value second from to)
    (runs-skip (text_mode.Utf8Second 0x80 0xBF (utf8_value value second)) (text_mode.Utf8Last (utf8_value (utf8_value value second) third)) inside a (a ++ c ∷ []) (last ∷ []) third (second-byte 0x80 0xBF (utf8_value value second) third (omega arith) (omega arith))
    (last-put (text_mode.Utf8Last (utf8_value (utf8_value value second) third)) inside a last c (last-byte (utf8_value (utf8_value value second) third) last c (omega arith) (omega arith) is s))))

four-run : (c : ℕ) → IsScalar c → 65536 ≤ c → (a : List ℕ) → Runs text_mode.Inside a ((240 + c / 262144) ∷ (128 + (c / 4096) % 64) ∷ (128 + (c / 64) % 64) ∷ (128 + c % 64) ∷ []) text_mode.Inside (a ++ c ∷ [])
four-run c s h a =
    let below : c < 1114112 = scalar-below c s in
    elim (cases_lt c 262144) [
      | inl low ↦ four-end c 0x90 0xBF 0 s (inside-at (240 + c / 262144) 0xF0 _ (omega arith) refl) (omega arith) (omega arith) (omega arith) a
      | inr more ↦ elim (cases_lt c 1048576) [
        | inl middle ↦ four-end c 0x80 0xBF ((240 + c / 262144) % 8) s (high-byte (240 + c / 262144) (omega arith) ∙ four-byte (240 + c / 262144) (omega arith) (omega arith)) (omega arith) (omega arith) (omega arith) a
        | inr high ↦ four-end c 0x80 0x8F 4 s (inside-at (240 + c / 262144) 0xF4 _ (omega arith) refl) (omega arith) (omega arith) (omega arith) a
      ]
    ]

pub utf8-run : (c : ℕ) → IsScalar c → 128 ≤ c → (a : List ℕ) → Runs text_mode.Inside a (encode_utf8 c) text_mode.Inside (a ++ c ∷ [])
utf8-run c s h a =
    elim (cases_lt c 2048) [
      | inl k ↦ subst (λ x. Runs text_mode.Inside a x text_mode.Inside (a ++ c ∷ [])) (sym (encode-two c h k)) (two-run c s h k a)
      | inr k ↦ elim (cases_lt c 65536) [
        | inl m ↦ subst (λ x. Runs text_mode.Inside a x text_mode.Inside (a ++ c ∷ [])) (sym (encode-three c k m)) (three-run c s k m a)
        | inr m ↦ subst (λ x. Runs text_mode.Inside a x text_mode.Inside (a ++ c ∷ [])) (sym (encode-four c m)) (four-run c s m a)
      ]
    ]

-- Units

doubled-run : (byte : ℕ) → IsApostropheOrBackslash byte → (a : List ℕ) → Runs text_mode.Inside a (byte ∷ byte ∷ []) text_mode.Inside (a ++ byte ∷ [])
doubled-run byte h a =
    elim h [
      | inl e ↦ subst (λ x. Runs text_mode.Inside a (x ∷ x ∷ []) text_mode.Inside (a ++ x ∷ [])) (sym e)
          (runs-skip text_mode.Inside text_mode.Apostrophe text_mode.Inside a (a ++ 39 ∷ []) (39 ∷ []) 39 refl (last-put text_mode.Apostrophe text_mode.Inside a 39 39 refl))
      | inr e ↦ subst (λ x. Runs text_mode.Inside a (x ∷ x ∷ []) text_mode.Inside (a ++ x ∷ [])) (sym e)
          (runs-skip text_mode.Inside text_mode.Backslash text_mode.Inside a (a ++ 92 ∷ []) (92 ∷ []) 92 refl (last-put text_mode.Backslash text_mode.Inside a 92 92 refl))
    ]

arbitrary-run : (c : ℕ) → c < 256 → (a : List ℕ) → Runs text_mode.Inside a (92 ∷ 88 ∷ 92 ∷ hex_digits 2 c) text_mode.Inside (a ++ c ∷ [])
arbitrary-run c h a =
    let high : ℕ = c / 16 % 16 in
    let low : ℕ = c % 16 in
    let inside = text_mode.Inside in
    let b = a ++ c ∷ [] in
    let is_high : high < 16 = omega arith in
    let is_low : low < 16 = omega arith in
    let same : high % 16 * 16 + low ≡ c = omega arith in
    runs-skip inside text_mode.Backslash inside a b (88 ∷ 92 ∷ hex_digit high ∷ hex_digit low ∷ []) 92 refl
    (runs-skip text_mode.Backslash text_mode.HexMark inside a b (92 ∷ hex_digit high ∷ hex_digit low ∷ []) 88 refl
    (runs-skip text_mode.HexMark text_mode.Arbitrary inside a b (hex_digit high ∷ hex_digit low ∷ []) 92 refl
    (runs-skip text_mode.Arbitrary (text_mode.ArbitrarySecond high) inside a b (hex_digit low ∷ []) (hex_digit high) (first_digit high is_high)
    (last-put (text_mode.ArbitrarySecond high) inside a (hex_digit low) c (second_digit high low c is_low same)))))
  where
    first_digit : (high : ℕ) → high < 16 → text_action text_mode.Arbitrary (hex_digit high) ≡ Skip (Text (text_mode.ArbitrarySecond high))
    first_digit high h = rw ((hex_forth high h).0, (hex_forth high h).1) refl

    second_digit : (high low c : ℕ) → low < 16 → high % 16 * 16 + low ≡ c → text_action (text_mode.ArbitrarySecond high) (hex_digit low) ≡ Put (Text text_mode.Inside) c
    second_digit high low c h e = rw ((hex_forth low h).0, (hex_forth low h).1, e) refl

unit-run : (unit : StringUnit) → IsStringUnit unit → (a : List ℕ) → Runs text_mode.Inside a (unit_bytes unit) text_mode.Inside (a ++ unit_characters unit)
unit-run (ignored byte) h a = subst (λ x. Runs text_mode.Inside a (byte ∷ []) text_mode.Inside x) (sym (append-nil a)) (last-skip text_mode.Inside text_mode.Inside a byte (ignored-byte byte h))
unit-run (plain byte) h a = last-put text_mode.Inside text_mode.Inside a byte byte (plain-byte byte h.0.0 h.0.1 h.1 h.2)
unit-run (doubled byte) h a = doubled-run byte h a
unit-run (high_codepoint c) h a = utf8-run c h.1 h.0 a
unit-run (page byte) h a =
    runs-skip text_mode.Inside text_mode.Backslash text_mode.Inside a (a ++ (byte + 128) ∷ []) (83 ∷ 92 ∷ byte ∷ []) 92 refl
    (runs-skip text_mode.Backslash text_mode.PageMark text_mode.Inside a (a ++ (byte + 128) ∷ []) (92 ∷ byte ∷ []) 83 refl
    (runs-skip text_mode.PageMark text_mode.Page text_mode.Inside a (a ++ (byte + 128) ∷ []) (byte ∷ []) 92 refl
    (last-put text_mode.Page text_mode.Inside a byte (byte + 128) (page-byte byte h.0 h.1))))
unit-run alphabet_a h a =
    subst (λ x. Runs text_mode.Inside a (92 ∷ 80 ∷ 65 ∷ 92 ∷ []) text_mode.Inside x) (sym (append-nil a))
    (runs-skip text_mode.Inside text_mode.Backslash text_mode.Inside a a (80 ∷ 65 ∷ 92 ∷ []) 92 refl
    (runs-skip text_mode.Backslash text_mode.AlphabetMark text_mode.Inside a a (65 ∷ 92 ∷ []) 80 refl
    (runs-skip text_mode.AlphabetMark text_mode.Alphabet text_mode.Inside a a (92 ∷ []) 65 refl (last-skip text_mode.Alphabet text_mode.Inside a 92 refl))))
unit-run (arbitrary c) h a = arbitrary-run c h a
unit-run (extended2 cs) h a =
    extended-run utf16_groups text_mode.Extended2First text_mode.Extended2Next (utf16-run text_mode.Extended2First first2) (utf16-run text_mode.Extended2Next next2) 50 text_mode.Extended2Mark refl refl refl cs h.0 h.1 a
unit-run (extended4 cs) h a =
    extended-run (hex_digits 8) text_mode.Extended4First text_mode.Extended4Next (eight-run text_mode.Extended4First first4) (eight-run text_mode.Extended4Next next4) 52 text_mode.Extended4Mark refl refl refl cs h.0 h.1 a

units-run : (units : List StringUnit) → Each IsStringUnit units → (a : List ℕ) → Runs text_mode.Inside a (flat_map unit_bytes units) text_mode.Inside (a ++ flat_map unit_characters units)
units-run [] h a = subst (λ x. Runs text_mode.Inside a [] text_mode.Inside x) (sym (append-nil a)) (runs-none text_mode.Inside a)
units-run (unit ∷ units) h a =
    subst (λ x. Runs text_mode.Inside a (unit_bytes unit ++ flat_map unit_bytes units) text_mode.Inside x) (append_assoc a (unit_characters unit) (flat_map unit_characters units))
    (runs-join text_mode.Inside text_mode.Inside text_mode.Inside a (a ++ unit_characters unit) ((a ++ unit_characters unit) ++ flat_map unit_characters units) (unit_bytes unit) (flat_map unit_bytes units)
    (unit-run unit h.0 a) (units-run units h.1 (a ++ unit_characters unit)))

-- what stands between the apostrophes is read up to the second one
pub text-run : (inside value rest : List ℕ) → Encodes inside value
    → lex (skip start (Text text_mode.Inside)) (inside ++ 39 ∷ rest) ≡ lex (record { mode = Text text_mode.Apostrophe; pending_bytes = []; characters = value; size = length inside + 2 }) rest
text-run inside value rest e =
    let units : Runs text_mode.Inside [] inside text_mode.Inside value =
    subst (λ x. Runs text_mode.Inside [] x text_mode.Inside value) (sym e.bytes_are) (subst (λ x. Runs text_mode.Inside [] (flat_map unit_bytes e.units) text_mode.Inside x) (sym e.characters_are) (units-run e.units e.are_units [])) in
    units [] 1 (39 ∷ rest)
    ∙ (lex-skip (in_text [] text_mode.Inside value (1 + length inside)) (Text text_mode.Apostrophe) 39 rest refl
    ∙ resize [] text_mode.Apostrophe value rest (1 + length inside + 1) (length inside + 2) (omega arith))
