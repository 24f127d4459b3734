-- The bytes of a string have one list of units at most, and so stand for one list of characters.
use Rattle.std.proofs.Common.{◌≡◌, ◌≢◌, ℕ, zero, suc, ◌+◌, ◌-◌, ◌*◌, ◌/◌, ◌%◌, ◌^◌, ◌<◌, ◌≤◌, Bool, true, false, List, [], ◌∷◌, ◌++◌, length, get_or, take, drop, refl, ap, sym, ◌∙◌, arith, subst, inl, inr, append_assoc}
use Rattle.std.proofs.lemmas.Bool.Decides.{nat_tests}
use Rattle.std.proofs.lemmas.Grind.{flat_map-append}
use Rattle.std.proofs.lemmas.List.{append_cancel_left, append_cancel_right}
use Rattle.std.specs.Prelude.{nat_lt, if◌then◌else◌, ◌==◌, ◌||◌, Option, Some, None}
use Rattle.std.specs.Char.{IsScalar, encode_utf8}
use Rattle.std.specs.Char.Escape.{encode_utf16}
use Rattle.std.specs.Char.Utf16.{is_high_surrogate, surrogate_pair_char}
use Rattle.std.specs.List.{flat_map, AllByRecursion as Each}
use Rattle.p21_spec_basics.specs.Digits.{hex_digits}
use Rattle.p21_spec_exchange.specs.Text.{StringUnit, ignored, plain, doubled, high_codepoint, page, alphabet_a, arbitrary, extended2, extended4, IsStringUnit, unit_bytes, unit_characters, utf16_groups, end_extended, Encodes, SpellsText}
use Rattle.p21_spec_basics.proofs.Members.{tail_is}
use Rattle.p21_spec_basics.proofs.HexDigits.{hex_number_behind, hex_number-hex_digits, IsHexDigit, are_hex_digits, length-hex_digits}

-- the numbers of groups of hex digits, each of `more` digits and one, up to a backslash; `left` digits and one are missing in the open group, whose number so far is n
unfoldable pub groups : List ℕ → (more left n : ℕ) → List ℕ
groups [] more left n = []
groups (digit ∷ digits) more left n =
    if digit == 92 then []
    else elim left [ zero ↦ hex_number_behind n (digit ∷ []) ∷ groups digits more more 0 | suc fewer ↦ groups digits more fewer (hex_number_behind n (digit ∷ [])) ]

-- the characters of UTF-16, behind a high surrogate or none
unfoldable pub utf16_behind : List ℕ → Option ℕ → List ℕ
utf16_behind [] None = []
utf16_behind [] (Some high) = high ∷ []
utf16_behind (u ∷ us) None = if is_high_surrogate u then utf16_behind us (Some u) else u ∷ utf16_behind us None
utf16_behind (u ∷ us) (Some high) = surrogate_pair_char high u ∷ utf16_behind us None

-- the character whose UTF-8 stands first
unfoldable pub first_codepoint : List ℕ → ℕ
first_codepoint bytes =
    if nat_lt (get_or bytes 0 0) 224 then (get_or bytes 0 0 - 192) * 64 + (get_or bytes 1 0 - 128)
    else if nat_lt (get_or bytes 0 0) 240 then (get_or bytes 0 0 - 224) * 4096 + (get_or bytes 1 0 - 128) * 64 + (get_or bytes 2 0 - 128)
    else (get_or bytes 0 0 - 240) * 262144 + (get_or bytes 1 0 - 128) * 4096 + (get_or bytes 2 0 - 128) * 64 + (get_or bytes 3 0 - 128)

-- the unit that a backslash begins, from the bytes behind it
unfoldable pub behind_backslash : List ℕ → StringUnit
behind_backslash bytes =
    if get_or bytes 0 0 == 92 then doubled 92
    else if get_or bytes 0 0 == 83 then page (get_or bytes 2 0)
    else if get_or bytes 0 0 == 80 then alphabet_a
    else if get_or bytes 0 0 == 88 then (
    if get_or bytes 1 0 == 92 then arbitrary (hex_number_behind 0 (take 2 (drop 2 bytes)))
    else if get_or bytes 1 0 == 50 then extended2 (utf16_behind (groups (drop 3 bytes) 3 3 0) None)
    else extended4 (groups (drop 3 bytes) 7 7 0))
    else ignored 92

-- the only unit that the bytes can begin with
unfoldable pub first_unit : List ℕ → StringUnit
first_unit bytes =
    if get_or bytes 0 0 == 39 then doubled 39
    else if get_or bytes 0 0 == 92 then behind_backslash (drop 1 bytes)
    else if nat_lt (get_or bytes 0 0) 32 || get_or bytes 0 0 == 127 then ignored (get_or bytes 0 0)
    else if nat_lt (get_or bytes 0 0) 128 then plain (get_or bytes 0 0)
    else high_codepoint (first_codepoint bytes)

first_group : (digits rest : List ℕ) (more left n : ℕ) → Each IsHexDigit digits → length digits ≡ suc left
    → groups (digits ++ rest) more left n ≡ hex_number_behind n digits ∷ groups rest more more 0
unfolding groups
first_group [] rest more left n p e = absurd (omega arith)
first_group (digit ∷ []) rest more zero n p e = let no_end : (digit == 92) ≡ false = grind (arith, nat_tests, p.0) in rw no_end refl
first_group (digit ∷ []) rest more (suc left) n p e = absurd (omega arith)
first_group (digit ∷ next ∷ digits) rest more zero n p e = absurd (omega arith)
first_group (digit ∷ next ∷ digits) rest more (suc left) n p e =
    let no_end : (digit == 92) ≡ false = grind (arith, nat_tests, p.0) in
    rw no_end (first_group (next ∷ digits) rest more left (hex_number_behind n (digit ∷ [])) p.1 (omega arith))

groups-spelled : (more : ℕ) (numbers rest : List ℕ) → Each (λ n. n < 16 ^ suc more) numbers → groups (flat_map (hex_digits (suc more)) numbers ++ (end_extended ++ rest)) more more 0 ≡ numbers
unfolding groups
groups-spelled more [] rest p = refl
groups-spelled more (n ∷ numbers) rest p =
    let behind = flat_map (hex_digits (suc more)) numbers ++ (end_extended ++ rest) in
    ap (λ (bytes : List ℕ). groups bytes more more 0) (append_assoc (hex_digits (suc more) n) _ _)
    ∙ first_group (hex_digits (suc more) n) behind more more 0 (are_hex_digits (suc more) n) (length-hex_digits (suc more) n)
    ∙ ap (λ (m : ℕ). m ∷ groups behind more more 0) (hex_number-hex_digits (suc more) n p.0)
    ∙ ap (λ (ms : List ℕ). n ∷ ms) (groups-spelled more numbers rest p.1)

-- a character in UTF-16: one unit that is no surrogate, or a high and a low one
data IsInUtf16 (c : ℕ) : Type 0 where
  alone : c < 16 ^ 4 → is_high_surrogate c ≡ false → encode_utf16 c ≡ c ∷ [] → IsInUtf16 c
  in_pair : (high low : ℕ) → high < 16 ^ 4 → low < 16 ^ 4 → is_high_surrogate high ≡ true → surrogate_pair_char high low ≡ c → encode_utf16 c ≡ high ∷ low ∷ [] → IsInUtf16 c

no_surrogate : (c : ℕ) → IsScalar c → is_high_surrogate c ≡ false
no_surrogate c scalar = grind (arith, nat_tests)

in_utf16 : (c : ℕ) → IsScalar c → IsInUtf16 c
in_utf16 c scalar = by (nat_lt c 0x1_0000) refl
  where
    by : (low : Bool) → nat_lt c 0x1_0000 ≡ low → IsInUtf16 c
    by true e = alone (grind (arith, nat_tests)) (no_surrogate c scalar) (rw e refl)
    by false e =
        let past : 0x1_0000 ≤ c = grind (arith, nat_tests) in
        let range : c < 0x11_0000 = grind (arith, nat_tests) in
        in_pair (0xD800 + (c - 0x1_0000) / 0x400) (0xDC00 + (c - 0x1_0000) % 0x400) (omega arith) (omega arith) (grind (arith, nat_tests)) (omega arith) (rw e refl)

both : (xs ys : List ℕ) → Each (λ u. u < 16 ^ 4) xs → Each (λ u. u < 16 ^ 4) ys → Each (λ u. u < 16 ^ 4) (xs ++ ys)
both [] ys p q = q
both (x ∷ xs) ys p q = (p.0, both xs ys p.1 q)

units-below : (c : ℕ) → IsInUtf16 c → Each (λ u. u < 16 ^ 4) (encode_utf16 c)
units-below c (alone h _ e) = subst (Each (λ u. u < 16 ^ 4)) (sym e) (h, tt)
units-below c (in_pair high low h k _ _ e) = subst (Each (λ u. u < 16 ^ 4)) (sym e) (h, (k, tt))

all_units-below : (cs : List ℕ) → Each IsScalar cs → Each (λ u. u < 16 ^ 4) (flat_map encode_utf16 cs)
all_units-below [] p = tt
all_units-below (c ∷ cs) p = both (encode_utf16 c) _ (units-below c (in_utf16 c p.0)) (all_units-below cs p.1)

one_character : (c : ℕ) (units : List ℕ) → IsInUtf16 c → utf16_behind (encode_utf16 c ++ units) None ≡ c ∷ utf16_behind units None
unfolding utf16_behind
one_character c units (alone _ no_high e) = ap (λ (us : List ℕ). utf16_behind (us ++ units) None) e ∙ rw no_high refl
one_character c units (in_pair high low _ _ is_high is e) =
    ap (λ (us : List ℕ). utf16_behind (us ++ units) None) e ∙ rw is_high (ap (λ (d : ℕ). d ∷ utf16_behind units None) is)

utf16_behind-encoded : (cs : List ℕ) → Each IsScalar cs → utf16_behind (flat_map encode_utf16 cs) None ≡ cs
unfolding utf16_behind
utf16_behind-encoded [] p = refl
utf16_behind-encoded (c ∷ cs) p = one_character c (flat_map encode_utf16 cs) (in_utf16 c p.0) ∙ ap (λ (ds : List ℕ). c ∷ ds) (utf16_behind-encoded cs p.1)

first_codepoint-encoded : (c : ℕ) (rest : List ℕ) → 128 ≤ c → IsScalar c → first_codepoint (encode_utf8 c ++ rest) ≡ c
unfolding encode_utf8 first_codepoint
first_codepoint-encoded c rest h scalar = two (nat_lt c 0x800) refl
  where
    past : nat_lt c 128 ≡ false
    past = grind (arith, nat_tests)

    three : (t : Bool) → nat_lt c 0x1_0000 ≡ t → nat_lt c 0x800 ≡ false → first_codepoint (encode_utf8 c ++ rest) ≡ c
    three true e f =
        let low : c < 0x1_0000 = grind (arith, nat_tests) in
        let second : nat_lt (224 + c / 4096) 224 ≡ false = grind (arith, nat_tests) in
        let lead : nat_lt (224 + c / 4096) 240 ≡ true = grind (arith, nat_tests) in
        rw (past, f, e, second, lead) (omega arith)
    three false e f =
        let low : c < 0x11_0000 = grind (arith, nat_tests) in
        let second : nat_lt (240 + c / 262144) 224 ≡ false = grind (arith, nat_tests) in
        let third : nat_lt (240 + c / 262144) 240 ≡ false = grind (arith, nat_tests) in
        rw (past, f, e, second, third) (omega arith)

    two : (t : Bool) → nat_lt c 0x800 ≡ t → first_codepoint (encode_utf8 c ++ rest) ≡ c
    two true e =
        let low : c < 0x800 = grind (arith, nat_tests) in
        let lead : nat_lt (192 + c / 64) 224 ≡ true = grind (arith, nat_tests) in
        rw (past, e, lead) (omega arith)
    two false e = three (nat_lt c 0x1_0000) refl e

utf16_groups-units : (cs : List ℕ) → flat_map utf16_groups cs ≡ flat_map (hex_digits 4) (flat_map encode_utf16 cs)
utf16_groups-units [] = refl
utf16_groups-units (c ∷ cs) =
    ap (λ (bytes : List ℕ). utf16_groups c ++ bytes) (utf16_groups-units cs) ∙ sym (flat_map-append (hex_digits 4) (encode_utf16 c) (flat_map encode_utf16 cs))

characters_of_four : (cs rest : List ℕ) → Each IsScalar cs → utf16_behind (groups ((flat_map utf16_groups cs ++ end_extended) ++ rest) 3 3 0) None ≡ cs
characters_of_four cs rest p =
    ap (λ (bytes : List ℕ). utf16_behind (groups bytes 3 3 0) None) (append_assoc (flat_map utf16_groups cs) end_extended rest ∙ ap (λ (bytes : List ℕ). bytes ++ (end_extended ++ rest)) (utf16_groups-units cs))
    ∙ ap (λ (units : List ℕ). utf16_behind units None) (groups-spelled 3 (flat_map encode_utf16 cs) rest (all_units-below cs p))
    ∙ utf16_behind-encoded cs p

scalars-below : (cs : List ℕ) → Each IsScalar cs → Each (λ c. c < 16 ^ 8) cs
scalars-below [] p = tt
scalars-below (c ∷ cs) p = let scalar = p.0 in (grind (arith, nat_tests), scalars-below cs p.1)

characters_of_eight : (cs rest : List ℕ) → Each IsScalar cs → groups ((flat_map (hex_digits 8) cs ++ end_extended) ++ rest) 7 7 0 ≡ cs
characters_of_eight cs rest p =
    ap (λ (bytes : List ℕ). groups bytes 7 7 0) (append_assoc (flat_map (hex_digits 8) cs) end_extended rest) ∙ groups-spelled 7 cs rest (scalars-below cs p)

first_unit-low : (byte : ℕ) (rest : List ℕ) → byte < 32 → first_unit (byte ∷ rest) ≡ ignored byte
unfolding first_unit
first_unit-low byte rest h =
    let no_quote : (byte == 39) ≡ false = grind (arith, nat_tests) in
    let no_backslash : (byte == 92) ≡ false = grind (arith, nat_tests) in
    let low : nat_lt byte 32 ≡ true = grind (arith, nat_tests) in
    rw (no_quote, no_backslash, low) refl

first_unit-graphic : (byte : ℕ) (rest : List ℕ) → 32 ≤ byte → byte ≤ 126 → (byte ≢ 39) → (byte ≢ 92) → first_unit (byte ∷ rest) ≡ plain byte
unfolding first_unit
first_unit-graphic byte rest h k m n =
    let no_quote : (byte == 39) ≡ false = grind (arith, nat_tests) in
    let no_backslash : (byte == 92) ≡ false = grind (arith, nat_tests) in
    let not_low : nat_lt byte 32 ≡ false = grind (arith, nat_tests) in
    let no_delete : (byte == 127) ≡ false = grind (arith, nat_tests) in
    let high : nat_lt byte 128 ≡ true = grind (arith, nat_tests) in
    rw (no_quote, no_backslash, not_low, no_delete, high) refl

first_unit-high : (bytes : List ℕ) → 128 ≤ get_or bytes 0 0 → first_unit bytes ≡ high_codepoint (first_codepoint bytes)
unfolding first_unit
first_unit-high bytes h =
    let no_quote : (get_or bytes 0 0 == 39) ≡ false = grind (arith, nat_tests) in
    let no_backslash : (get_or bytes 0 0 == 92) ≡ false = grind (arith, nat_tests) in
    let not_low : nat_lt (get_or bytes 0 0) 32 ≡ false = grind (arith, nat_tests) in
    let no_delete : (get_or bytes 0 0 == 127) ≡ false = grind (arith, nat_tests) in
    let high : nat_lt (get_or bytes 0 0) 128 ≡ false = grind (arith, nat_tests) in
    rw (no_quote, no_backslash, not_low, no_delete, high) refl

high_first : (c : ℕ) (rest : List ℕ) → 128 ≤ c → 128 ≤ get_or (encode_utf8 c ++ rest) 0 0
unfolding encode_utf8
high_first c rest h = by (nat_lt c 0x800) (nat_lt c 0x1_0000) refl refl
  where
    past : nat_lt c 128 ≡ false
    past = grind (arith, nat_tests)

    by : (s t : Bool) → nat_lt c 0x800 ≡ s → nat_lt c 0x1_0000 ≡ t → 128 ≤ get_or (encode_utf8 c ++ rest) 0 0
    by true t e f = rw (past, e) (omega arith)
    by false true e f = rw (past, e, f) (omega arith)
    by false false e f = rw (past, e, f) (omega arith)

first_unit-spelled : (unit : StringUnit) (rest : List ℕ) → IsStringUnit unit → first_unit (unit_bytes unit ++ rest) ≡ unit
unfolding first_unit behind_backslash
first_unit-spelled (ignored byte) rest (inl h) = first_unit-low byte rest h
first_unit-spelled (ignored byte) rest (inr h) = let P : ℕ → Type 0 = λ b. first_unit (b ∷ rest) ≡ ignored b in subst P (sym h) refl
first_unit-spelled (plain byte) rest (range, h, k) = first_unit-graphic byte rest range.0 range.1 h k
first_unit-spelled (doubled byte) rest (inl h) = let P : ℕ → Type 0 = λ b. first_unit (b ∷ b ∷ rest) ≡ doubled b in subst P (sym h) refl
first_unit-spelled (doubled byte) rest (inr h) = let P : ℕ → Type 0 = λ b. first_unit (b ∷ b ∷ rest) ≡ doubled b in subst P (sym h) refl
first_unit-spelled (high_codepoint c) rest (h, scalar) = first_unit-high _ (high_first c rest h) ∙ ap high_codepoint (first_codepoint-encoded c rest h scalar)
first_unit-spelled (page byte) rest p = refl
first_unit-spelled alphabet_a rest p = refl
first_unit-spelled (arbitrary c) rest h = ap arbitrary (hex_number-hex_digits 2 c h)
first_unit-spelled (extended2 cs) rest p = ap extended2 (characters_of_four cs rest p.1)
first_unit-spelled (extended4 cs) rest p = ap extended4 (characters_of_eight cs rest p.1)

-- no unit's bytes are the beginning of another's
pub unit_once : (u v : StringUnit) (xs ys : List ℕ) → IsStringUnit u → IsStringUnit v → unit_bytes u ++ xs ≡ unit_bytes v ++ ys → (u ≡ v) × (xs ≡ ys)
unit_once u v xs ys p q e =
    let same : u ≡ v = sym (first_unit-spelled u xs p) ∙ ap first_unit e ∙ first_unit-spelled v ys q in
    (same, append_cancel_left (unit_bytes v) xs ys (ap (λ (w : StringUnit). unit_bytes w ++ xs) (sym same) ∙ e))

some_bytes : (unit : StringUnit) (rest : List ℕ) → IsStringUnit unit → unit_bytes unit ++ rest ≡ [] → ⊥
unfolding first_unit
some_bytes unit rest p e =
    let same : unit ≡ ignored 0 = sym (first_unit-spelled unit rest p) ∙ ap first_unit e in
    let none : 0 ∷ rest ≡ [] = ap (λ (u : StringUnit). unit_bytes u ++ rest) (sym same) ∙ e in
    (cc)

pub units_once : (us vs : List StringUnit) → Each IsStringUnit us → Each IsStringUnit vs → flat_map unit_bytes us ≡ flat_map unit_bytes vs → us ≡ vs
units_once [] [] p q e = refl
units_once [] (v ∷ vs) p q e = absurd (some_bytes v _ q.0 (sym e))
units_once (u ∷ us) [] p q e = absurd (some_bytes u _ p.0 e)
units_once (u ∷ us) (v ∷ vs) p q e =
    let (first, behind) = unit_once u v _ _ p.0 q.0 e in
    let rest : us ≡ vs = units_once us vs p.1 q.1 behind in
    (cc)

-- a unit and what stands behind it
pub record FirstUnit (bytes : List ℕ) (unit : StringUnit) : Type 0 where
  pub is_unit : IsStringUnit unit
  pub rest : List ℕ
  pub bytes_are : bytes ≡ unit_bytes unit ++ rest
  pub characters : List ℕ
  pub encodes : Encodes rest characters

pub first_unit_of : (bytes characters : List ℕ) → 0 < length bytes → Encodes bytes characters → FirstUnit bytes (first_unit bytes)
first_unit_of bytes characters some s = by s.units s.are_units s.bytes_are
  where
    by : (units : List StringUnit) → Each IsStringUnit units → bytes ≡ flat_map unit_bytes units → FirstUnit bytes (first_unit bytes)
    by [] p e = absurd (omega (arith, ap length e))
    by (unit ∷ units) p e =
        let own : FirstUnit bytes unit = record {
          is_unit = p.0;
          rest = flat_map unit_bytes units;
          bytes_are = e;
          characters = flat_map unit_characters units;
          encodes = record { units = units; are_units = p.1; bytes_are = refl; characters_are = refl };
        } in
        subst (FirstUnit bytes) (sym (first_unit-spelled unit _ p.0) ∙ ap first_unit (sym e)) own

pub characters_once : (bytes a b : List ℕ) → Encodes bytes a → Encodes bytes b → a ≡ b
characters_once bytes a b s t =
    s.characters_are ∙ ap (flat_map unit_characters) (units_once s.units t.units s.are_units t.are_units (sym s.bytes_are ∙ t.bytes_are)) ∙ sym t.characters_are

pub inside_text : (inside characters : List ℕ) → SpellsText (39 ∷ (inside ++ (39 ∷ []))) characters → Encodes inside characters
inside_text inside characters s =
    let Inside : List ℕ → Type 0 = λ bytes. Encodes bytes characters in
    subst Inside (sym (append_cancel_right inside s.inside (39 ∷ []) (tail_is 39 39 _ _ s.bytes_are))) s.encodes

-- a byte list spells one text at most
pub text_once : (bytes a b : List ℕ) → SpellsText bytes a → SpellsText bytes b → a ≡ b
text_once bytes a b s t =
    let Spells : List ℕ → Type 0 = λ spelled. SpellsText spelled b in
    characters_once s.inside a b s.encodes (inside_text s.inside b (subst Spells s.bytes_are t))
