-- The characters of a text one by one, and the hex digits of those in directives.
use Rattle.std.proofs.Common.{◌≡◌, ℕ, ◌+◌, ◌<◌, ◌≤◌, ◌^◌, List, [], ◌∷◌, ◌++◌, None, Some, length, take, drop, ap, sym, subst, ◌∙◌, arith, append_assoc, append-nil, length-append}
use Rattle.std.proofs.lemmas.List.{take_all}
use Rattle.std.proofs.Math.Seq.{drop-append_seam, take-append_seam}
use Rattle.std.specs.Char.{IsScalar}
use Rattle.std.specs.List.{flat_map}
use Rattle.p21_spec_basics.proofs.HexDigits.{hex_number_behind, hex_number-hex_digits, length-hex_digits}
use Rattle.p21_spec_basics.specs.Digits.{hex_digits}
use Rattle.p21_spec_exchange.proofs.Texts.{text_scalars}
use Rattle.p21_spec_exchange.specs.Parameter.{text}
use Rattle.p21_spec_exchange.specs.Spelling.{character_spelling}
use Rattle.p21_spec_exchange.specs.Text.{end_extended}
use Rattle.p21_model_values.specs.Spelled.{AreLeftCharacters, HandsOutCharacter}
use Rattle.p21_model_values.specs.Written.{IsTextOf}

-- the digits of a group, and what stands behind the end of its directive
pub group-cut : (width c : ℕ) (bytes more : List ℕ) → bytes ≡ hex_digits width c ++ (end_extended ++ more)
    → (take width bytes ≡ hex_digits width c) × (drop width bytes ≡ end_extended ++ more)
group-cut width c bytes more is =
    let long = length-hex_digits width c in (
      ap (take width) is ∙ ap (λ n. take n (hex_digits width c ++ (end_extended ++ more))) (sym long)
          ∙ take-append_seam (hex_digits width c) (end_extended ++ more),
      ap (drop width) is ∙ ap (λ n. drop n (hex_digits width c ++ (end_extended ++ more))) (sym long)
          ∙ drop-append_seam (hex_digits width c) (end_extended ++ more),
    )

-- hex digits stand for one number of as many
pub hex-once : (count a b : ℕ) → a < 16 ^ count → b < 16 ^ count → hex_digits count a ≡ hex_digits count b → a ≡ b
hex-once count a b small other same =
    sym (hex_number-hex_digits count a small) ∙ ap (hex_number_behind 0) same ∙ hex_number-hex_digits count b other

pub number-known : (digits : List ℕ) (index code value : ℕ) → length digits ≤ index → index ≤ length digits
    → take index digits ≡ hex_digits index code → code < 16 ^ index → value < 16 ^ length digits → digits ≡ hex_digits (length digits) value
    → code ≡ value
number-known digits index code value low high are small other is =
    let all : index ≡ length digits = omega (arith, low, high) in
    let taken : take (length digits) digits ≡ hex_digits (length digits) code = subst (λ n. take n digits ≡ hex_digits n code) all are in
    let whole : take (length digits) digits ≡ digits = take_all (length digits) digits (omega arith) in
    hex-once (length digits) code value (subst (λ n. code < 16 ^ n) all small) other (sym taken ∙ whole ∙ is)

-- ---- a group of hex digits with the end of its directive

group-size : (width c : ℕ) (bytes more : List ℕ) → bytes ≡ hex_digits width c ++ (end_extended ++ more) → width + 4 ≤ length bytes
group-size width c bytes more is =
    let all = ap length is ∙ length-append (hex_digits width c) (end_extended ++ more) in
    let own = length-hex_digits width c in
    omega (arith, all, own)

pub group-long : (width c : ℕ) (bytes more : List ℕ) → bytes ≡ hex_digits width c ++ (end_extended ++ more) → length bytes < width → ⊥
group-long width c bytes more is short = let size = group-size width c bytes more is in omega (arith, size, short)

pub behind-long : (width c : ℕ) (bytes behind more : List ℕ) → bytes ≡ hex_digits width c ++ (end_extended ++ more)
    → behind ≡ drop width bytes → length behind < 4 → ⊥
behind-long width c bytes behind more is same short = let all = ap length (same ∙ (group-cut width c bytes more is).1) in
    omega (arith, all, short)

pub group-digits : (width c : ℕ) (bytes digits more : List ℕ) → bytes ≡ hex_digits width c ++ (end_extended ++ more)
    → digits ≡ take width bytes → length digits ≡ width → c < 16 ^ width
    → (c < 16 ^ length digits) × (digits ≡ hex_digits (length digits) c)
group-digits width c bytes digits more is front long small =
    (subst (λ n. c < 16 ^ n) (sym long) small, front ∙ (group-cut width c bytes more is).0 ∙ ap (λ n. hex_digits n c) (sym long))

pub group-behind : (width c : ℕ) (bytes behind more : List ℕ) → bytes ≡ hex_digits width c ++ (end_extended ++ more)
    → behind ≡ drop width bytes → drop 4 behind ≡ more
group-behind width c bytes behind more is same = ap (λ (xs : List ℕ). drop 4 xs) (same ∙ (group-cut width c bytes more is).1)

-- ---- the characters one by one

-- the characters of a text behind its first apostrophe
pub text-left : (characters : List ℕ) (first : ℕ) (rest bytes : List ℕ) → IsTextOf bytes (text characters) → bytes ≡ first ∷ rest
    → AreLeftCharacters characters rest
text-left characters first rest bytes t is =
    let e : first ∷ rest ≡ (39 ∷ (flat_map character_spelling characters ++ (39 ∷ []))) ++ [] = sym is ∙ t.bytes_are in
    let all : first ∷ rest ≡ 39 ∷ (flat_map character_spelling characters ++ (39 ∷ [])) = e
    ∙ append-nil (39 ∷ (flat_map character_spelling characters ++ (39 ∷ []))) in
    let tail : rest ≡ flat_map character_spelling characters ++ (39 ∷ []) = cc in
    record { scalars = text_scalars t.written.0.0 characters t.written.0.1; bytes_are = tail }

-- nothing is handed out at the apostrophe at the end
pub none-led : (characters bytes : List ℕ) → AreLeftCharacters characters bytes
    → ((character : ℕ) (rest : List ℕ) → IsScalar character → bytes ≡ character_spelling character ++ rest → ⊥)
    → HandsOutCharacter characters None bytes
none-led [] bytes left some = left
none-led (character ∷ characters) bytes left some =
    some character (flat_map character_spelling characters ++ (39 ∷ [])) left.scalars.0
    (left.bytes_are ∙ append_assoc (character_spelling character) (flat_map character_spelling characters) (39 ∷ []))

-- else the character that leads is
pub one-led : (characters bytes : List ℕ) (found : ℕ) (rest : List ℕ) → AreLeftCharacters characters bytes → (bytes ≡ 39 ∷ [] → ⊥)
    → ((character : ℕ) (more : List ℕ) → IsScalar character → bytes ≡ character_spelling character ++ more → (found ≡ character) ×
    (rest ≡ more)) → HandsOutCharacter characters (Some found) rest
one-led [] bytes found rest left none some = none left.bytes_are
one-led (character ∷ characters) bytes found rest left none some =
    let behind = flat_map character_spelling characters ++ (39 ∷ []) in
    let led = some character behind left.scalars.0 (left.bytes_are
    ∙ append_assoc (character_spelling character) (flat_map character_spelling characters) (39 ∷ [])) in
    (led.0, record { scalars = left.scalars.1; bytes_are = led.1 })
