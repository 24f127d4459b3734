-- Bits have one spelling, and a spelling one list of bits.
use Rattle.std.proofs.Common.{◌≡◌, ℕ, zero, suc, ◌+◌, ◌*◌, ◌/◌, ◌%◌, ◌==◌, ◌<◌, ◌↔◌, Bool, true, false, List, [], ◌∷◌, ◌++◌, length, map, replicate, refl, ap, sym, subst, ◌∙◌, arith, lit<, length-append}
use Rattle.std.proofs.lemmas.Bool.Decides.{nat_tests}
use Rattle.std.proofs.lemmas.List.{append_cancel_left, append_cancel_right}
use Rattle.std.specs.List.{flat_map, AllByRecursion as Each}
use Rattle.p21_spec_exchange.specs.Binary.{four_bits, has_bit, SpellsBits}
use Rattle.p21_spec_basics.specs.Digits.{hex_digit}
use Rattle.p21_spec_exchange.specs.Spelling.{padding_of, bit_value, hex_values_of, bits_spelling}
use Rattle.p21_spec_basics.proofs.Members.{head_is, tail_is}

four : (a b c d : Bool) → (bit_value a 8 + bit_value b 4 + bit_value c 2 + bit_value d 1 < 16) × (four_bits (bit_value a 8 + bit_value b 4 + bit_value c 2 + bit_value d 1) ≡ a ∷ b ∷ c ∷ d ∷ [])
four true true true true = (lit< tt, refl)
four true true true false = (lit< tt, refl)
four true true false true = (lit< tt, refl)
four true true false false = (lit< tt, refl)
four true false true true = (lit< tt, refl)
four true false true false = (lit< tt, refl)
four true false false true = (lit< tt, refl)
four true false false false = (lit< tt, refl)
four false true true true = (lit< tt, refl)
four false true true false = (lit< tt, refl)
four false true false true = (lit< tt, refl)
four false true false false = (lit< tt, refl)
four false false true true = (lit< tt, refl)
four false false true false = (lit< tt, refl)
four false false false true = (lit< tt, refl)
four false false false false = (lit< tt, refl)

groups : (count : ℕ) (bs : List Bool) → length bs ≡ 4 * count → Each (λ n. n < 16) (hex_values_of bs) × (flat_map four_bits (hex_values_of bs) ≡ bs)
groups count [] e = (tt, refl)
groups zero (a ∷ bs) e = absurd (omega (arith, e))
groups (suc count) (a ∷ []) e = absurd (omega (arith, e))
groups (suc count) (a ∷ b ∷ []) e = absurd (omega (arith, e))
groups (suc count) (a ∷ b ∷ c ∷ []) e = absurd (omega (arith, e))
groups (suc count) (a ∷ b ∷ c ∷ d ∷ bs) e =
    let own = four a b c d in
    let rest = groups count bs (omega (arith, e)) in
    ((own.0, rest.0), ap (λ (xs : List Bool). xs ++ flat_map four_bits (hex_values_of bs)) own.1 ∙ ap (λ (xs : List Bool). a ∷ b ∷ c ∷ d ∷ xs) rest.1)

length_replicate : (n : ℕ) (b : Bool) → length (replicate n b) ≡ n
length_replicate zero b = refl
length_replicate (suc n) b = let e = length_replicate n b in omega (arith, e)

pub bits_spell : (value : List Bool) → SpellsBits (bits_spelling value) value
bits_spell value =
    let padding = padding_of (length value) in
    let filled = replicate padding false ++ value in
    let long : length filled ≡ 4 * ((padding + length value) / 4) = rw (length-append (replicate padding false) value, length_replicate padding false) (omega arith) in
    let own = groups ((padding + length value) / 4) filled long in
    record { padding = padding; hex_values = hex_values_of filled; padding_is = omega arith; are_hex_values = own.0; bytes_are = refl; value_is = own.1 }

hex_digit_once : (m n : ℕ) → hex_digit m ≡ hex_digit n → m < 16 → n < 16 → m ≡ n
hex_digit_once m n e h k = grind (arith, nat_tests)

hex_digits_once : (ms ns : List ℕ) → Each (λ n. n < 16) ms → Each (λ n. n < 16) ns → map hex_digit ms ≡ map hex_digit ns → ms ≡ ns
hex_digits_once [] [] p q e = refl
hex_digits_once [] (n ∷ ns) p q e = cc
hex_digits_once (m ∷ ms) [] p q e = cc
hex_digits_once (m ∷ ms) (n ∷ ns) p q e =
    let head : hex_digit m ≡ hex_digit n = cc in
    let tail : map hex_digit ms ≡ map hex_digit ns = cc in
    let first : m ≡ n = hex_digit_once m n head p.0 q.0 in
    let rest : ms ≡ ns = hex_digits_once ms ns p.1 q.1 tail in
    (cc)

-- a spelling has one padding and one list of hex digits
parts_once : (p q : ℕ) (ms ns : List ℕ) → Each (λ n. n < 16) ms → Each (λ n. n < 16) ns
    → 34 ∷ (48 + p) ∷ (map hex_digit ms ++ (34 ∷ [])) ≡ 34 ∷ (48 + q) ∷ (map hex_digit ns ++ (34 ∷ [])) → (p ≡ q) × (ms ≡ ns)
parts_once p q ms ns h k e =
    let rest = tail_is 34 34 _ _ e in
    let digits = append_cancel_right (map hex_digit ms) (map hex_digit ns) (34 ∷ []) (tail_is (48 + p) (48 + q) _ _ rest) in
    (omega (arith, head_is (48 + p) (48 + q) _ _ rest), hex_digits_once ms ns h k digits)

pub bits_once : (bytes : List ℕ) (a b : List Bool) → SpellsBits bytes a → SpellsBits bytes b → a ≡ b
bits_once bytes a b s t =
    let parts = parts_once s.padding t.padding s.hex_values t.hex_values s.are_hex_values t.are_hex_values (sym s.bytes_are ∙ t.bytes_are) in
    let filled : replicate t.padding false ++ a ≡ replicate t.padding false ++ b =
    ap (λ p. replicate p false ++ a) (sym parts.0) ∙ sym s.value_is ∙ ap (flat_map four_bits) parts.1 ∙ t.value_is in
    append_cancel_left (replicate t.padding false) a b filled

pub same_bits : (a b : List Bool) → (a ≡ b) ↔ (bits_spelling a ≡ bits_spelling b)
same_bits a b = (
  λ e. ap bits_spelling e,
  λ e. let Spells : List ℕ → Type 0 = λ bytes. SpellsBits bytes a in bits_once _ a b (subst Spells e (bits_spell a)) (bits_spell b),
)

length_four_bits : (ns : List ℕ) → length (flat_map four_bits ns) ≡ 4 * length ns
length_four_bits [] = refl
length_four_bits (n ∷ ns) = let rest = length_four_bits ns in omega (arith, rest)

-- four bits to a hex digit, less the padding
pub length_spelled : (bytes : List ℕ) (value : List Bool) (s : SpellsBits bytes value) → s.padding + length value ≡ 4 * length s.hex_values
length_spelled bytes value s =
    omega (arith, ap length s.value_is, length_four_bits s.hex_values, length-append (replicate s.padding false) value, length_replicate s.padding false)

bit_back : (bit worth : ℕ) → bit < 2 → bit_value (bit == 1) worth ≡ bit * worth
bit_back zero worth h = omega arith
bit_back (suc zero) worth h = omega arith
bit_back (suc (suc more)) worth h = absurd (omega arith)

four_back : (n : ℕ) → n < 16 → bit_value (has_bit 8 n) 8 + bit_value (has_bit 4 n) 4 + bit_value (has_bit 2 n) 2 + bit_value (has_bit 1 n) 1 ≡ n
four_back n h =
    omega (arith, bit_back (n / 8 % 2) 8 (omega arith), bit_back (n / 4 % 2) 4 (omega arith), bit_back (n / 2 % 2) 2 (omega arith), bit_back (n / 1 % 2) 1 (omega arith))

groups_back : (ns : List ℕ) → Each (λ n. n < 16) ns → hex_values_of (flat_map four_bits ns) ≡ ns
groups_back [] p = refl
groups_back (n ∷ ns) p =
    let first = four_back n p.0 in
    let rest = groups_back ns p.1 in
    (cc)

pub bits_spelled_once : (bytes : List ℕ) (value : List Bool) → SpellsBits bytes value → bytes ≡ bits_spelling value
bits_spelled_once bytes value s =
    let padding : s.padding ≡ padding_of (length value) = omega (arith, length_spelled bytes value s, s.padding_is) in
    let digits : s.hex_values ≡ hex_values_of (replicate (padding_of (length value)) false ++ value) =
    sym (groups_back s.hex_values s.are_hex_values) ∙ ap hex_values_of s.value_is ∙ ap (λ p. hex_values_of (replicate p false ++ value)) padding in
    s.bytes_are ∙ ap (λ p. 34 ∷ (48 + p) ∷ (map hex_digit s.hex_values ++ (34 ∷ []))) padding ∙ ap (λ ns. 34 ∷ (48 + padding_of (length value)) ∷ (map hex_digit ns ++ (34 ∷ []))) digits
