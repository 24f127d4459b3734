-- The parts of a binary are known from its bytes, and spell it.
use Rattle.std.proofs.Common.{◌≡◌, ◌≢◌, ℕ, zero, suc, ◌+◌, ◌/◌, ◌%◌, ◌^◌, ◌<◌, ◌↔◌, Bool, false, List, [], ◌∷◌, ◌++◌, map, take, drop, replicate, IsTrue, refl, ap, sym, subst, ◌∙◌, arith, append_assoc}
use Rattle.std.proofs.lemmas.Bool.Decides.{nat_tests}
use Rattle.std.proofs.lemmas.List.{append-nil, take_at, take-append-drop, length-replicate}
use Rattle.std.specs.Prelude.{nat_lt}
use Rattle.std.specs.List.{flat_map}
use Rattle.p21_spec_basics.specs.Digits.{hex_digit}
use Rattle.p21_spec_basics.proofs.Members.{head_is, tail_is}
use Rattle.p21_spec_exchange.specs.Binary.{SpellsBits, four_bits, has_bit}
use Rattle.p21_scan.specs.Binary.{IsBinaryAt, IsPadded, NoBinaryAt, bits_of_digits}
use Rattle.p21_scan.specs.Digits.{BeginsWithoutByte}
use Rattle.p21_scan.specs.Hex.{AllHexDigits, NoHexDigitFirst, hex_value, is_hex_digit}
use Rattle.p21_scan.proofs.HexRuns.{hex_back, hex_split_once, hex_values_back, hex_values_forth}

-- ---- the bits that fill

clear_bit : (worth n : ℕ) → n / worth % 2 ≡ 0 → has_bit worth n ≡ false
clear_bit worth n e = rw e refl

bit_clear : (worth n : ℕ) → has_bit worth n ≡ false → n / worth % 2 ≢ 1
bit_clear worth n e h = grind (arith, nat_tests)

-- small digits begin with clear bits
small_padded : (p n : ℕ) (rest : List Bool) → p < 4 → n < 16 / 2 ^ p → take p (four_bits n ++ rest) ≡ replicate p false
small_padded zero n rest h l = refl
small_padded (suc zero) n rest h l = let a = clear_bit 8 n (omega arith) in cc
small_padded (suc (suc zero)) n rest h l = let a = clear_bit 8 n (omega arith) in let b = clear_bit 4 n (omega arith) in cc
small_padded (suc (suc (suc zero))) n rest h l = let a = clear_bit 8 n (omega arith) in let b = clear_bit 4 n (omega arith) in let c = clear_bit 2 n (omega arith) in cc
small_padded (suc (suc (suc (suc p)))) n rest h l = absurd (omega arith)

-- and those that do are small
padded_small : (p n : ℕ) (rest : List Bool) → p < 4 → n < 16 → take p (four_bits n ++ rest) ≡ replicate p false → n < 16 / 2 ^ p
padded_small zero n rest h k e = k
padded_small (suc zero) n rest h k e = let a : has_bit 8 n ≡ false = cc in omega (arith, bit_clear 8 n a)
padded_small (suc (suc zero)) n rest h k e = let a : has_bit 8 n ≡ false = cc in let b : has_bit 4 n ≡ false = cc in omega (arith, bit_clear 8 n a, bit_clear 4 n b)
padded_small (suc (suc (suc zero))) n rest h k e =
    let a : has_bit 8 n ≡ false = cc in
    let b : has_bit 4 n ≡ false = cc in
    let c : has_bit 2 n ≡ false = cc in
    omega (arith, bit_clear 8 n a, bit_clear 4 n b, bit_clear 2 n c)
padded_small (suc (suc (suc (suc p)))) n rest h k e = absurd (omega arith)

pub padded_digits : (p first value : ℕ) (rest digits : List ℕ) → p < 4 → IsTrue (is_hex_digit first) → value ≡ hex_value first → digits ≡ first ∷ rest → IsTrue (nat_lt value (16 / 2 ^ p)) ↔ IsPadded p digits
padded_digits p first value rest digits h hex v e =
    let long = bits_of_digits rest in rw (e, v) (
      λ l. small_padded p (hex_value first) long h (grind (arith, nat_tests)),
      λ t. let l = padded_small p (hex_value first) long h (hex_back first hex).0 t in grind (arith, nat_tests),
    )

-- ---- the parts

-- what a binary has between its quotes
pub record AreParts (bytes : List ℕ) (padding : ℕ) (digits rest : List ℕ) : Type 0 where
  pub bytes_are : bytes ≡ 34 ∷ (48 + padding) ∷ (digits ++ (34 ∷ rest))
  pub small : padding < 4
  pub are_digits : AllHexDigits digits
  pub padded : IsPadded padding digits

pub parts_of : (bytes : List ℕ) (padding : ℕ) (digits rest : List ℕ) → IsBinaryAt bytes padding digits rest → AreParts bytes padding digits rest
parts_of bytes padding digits rest x =
    let s = x.spells in
    let own = hex_values_forth s.hex_values s.are_hex_values in
    let bits : bits_of_digits digits ≡ replicate padding false ++ x.value =
    ap bits_of_digits x.digits_are ∙ ap (flat_map four_bits) own.1 ∙ s.value_is ∙ ap (λ (k : ℕ). replicate k false ++ x.value) (sym x.padding_is) in
    record {
      bytes_are =
          x.bytes_are
          ∙ (ap (λ (xs : List ℕ). xs ++ rest) s.bytes_are
          ∙ (ap (λ (xs : List ℕ). 34 ∷ (48 + s.padding) ∷ xs) (append_assoc (map hex_digit s.hex_values) (34 ∷ []) rest)
          ∙ (ap (λ (k : ℕ). 34 ∷ (48 + k) ∷ (map hex_digit s.hex_values ++ (34 ∷ rest))) (sym x.padding_is) ∙ ap (λ (xs : List ℕ). 34 ∷ (48 + padding) ∷ (xs ++ (34 ∷ rest))) (sym x.digits_are))));
      small = rw x.padding_is s.padding_is;
      are_digits = subst AllHexDigits (sym x.digits_are) own.0;
      padded = ap (take padding) bits ∙ take_at (replicate padding false) x.value padding (length-replicate padding false);
    }

abbrev pub binary_at : (bytes : List ℕ) (padding : ℕ) (digits rest : List ℕ) → AreParts bytes padding digits rest → IsBinaryAt bytes padding digits rest
binary_at bytes padding digits rest x =
    let own = hex_values_back digits x.are_digits in
    record {
      front = 34 ∷ (48 + padding) ∷ (digits ++ (34 ∷ []));
      value = drop padding (bits_of_digits digits);
      bytes_are = x.bytes_are ∙ ap (λ (xs : List ℕ). 34 ∷ (48 + padding) ∷ xs) (sym (append_assoc digits (34 ∷ []) rest));
      spells = record {
        padding = padding;
        hex_values = map hex_value digits;
        padding_is = x.small;
        are_hex_values = own.0;
        bytes_are = ap (λ (ds : List ℕ). 34 ∷ (48 + padding) ∷ (ds ++ (34 ∷ []))) (sym own.1);
        value_is = sym (take-append-drop padding (bits_of_digits digits)) ∙ ap (λ (bs : List Bool). bs ++ drop padding (bits_of_digits digits)) x.padded;
      };
      padding_is = refl;
      digits_are = sym own.1;
    }

-- ---- bytes with no binary at the front

pub without_quote : (bytes : List ℕ) → BeginsWithoutByte 34 bytes → NoBinaryAt bytes
without_quote bytes other padding digits rest x = at bytes other (parts_of bytes padding digits rest x).bytes_are
  where
    at : (b : List ℕ) → BeginsWithoutByte 34 b → b ≡ 34 ∷ (48 + padding) ∷ (digits ++ (34 ∷ rest)) → ⊥
    at [] other e = cc
    at (c ∷ b) other e = let quote : c ≡ 34 = cc in other quote

pub without_padding : (bytes inside : List ℕ) → bytes ≡ 34 ∷ inside → ((padding : ℕ) (rest : List ℕ) → padding < 4 → inside ≡ (48 + padding) ∷ rest → ⊥) → NoBinaryAt bytes
without_padding bytes inside e none_there padding digits rest x =
    let p = parts_of bytes padding digits rest x in none_there padding (digits ++ (34 ∷ rest)) p.small (tail_is 34 34 _ _ (sym e ∙ p.bytes_are))

-- the quote is no hex digit
no_digit : ¬ IsTrue (is_hex_digit 34)
no_digit h = cc

-- a padding and hex digits at the front are those of the binary there
pub parts_found : (bytes unpadded closing : List ℕ) (found : ℕ) (run : List ℕ) (padding : ℕ) (digits rest : List ℕ) → bytes ≡ 34 ∷ (48 + found) ∷ unpadded → unpadded ≡ run ++ closing → AllHexDigits run → NoHexDigitFirst closing
    → AreParts bytes padding digits rest → (found ≡ padding) × (run ≡ digits) × (closing ≡ 34 ∷ rest)
parts_found bytes unpadded closing found run padding digits rest e split are ends p =
    let tails = tail_is 34 34 _ _ (sym e ∙ p.bytes_are) in
    let same = hex_split_once run digits closing (34 ∷ rest) are p.are_digits ends no_digit (sym split ∙ tail_is (48 + found) (48 + padding) _ _ tails) in
    (omega (arith, head_is (48 + found) (48 + padding) _ _ tails), same.0, same.1)

pub not_closed : (bytes unpadded closing : List ℕ) (found : ℕ) (run : List ℕ) → bytes ≡ 34 ∷ (48 + found) ∷ unpadded → unpadded ≡ run ++ closing → AllHexDigits run → NoHexDigitFirst closing → BeginsWithoutByte 34 closing → NoBinaryAt bytes
not_closed bytes unpadded closing found run e split are ends other padding digits rest x =
    at closing other (parts_found bytes unpadded closing found run padding digits rest e split are ends (parts_of bytes padding digits rest x)).2
  where
    at : (b : List ℕ) → BeginsWithoutByte 34 b → b ≡ 34 ∷ rest → ⊥
    at [] other e = cc
    at (c ∷ b) other e = let quote : c ≡ 34 = cc in other quote

pub not_padded : (bytes unpadded closing : List ℕ) (found : ℕ) (run : List ℕ) → bytes ≡ 34 ∷ (48 + found) ∷ unpadded → unpadded ≡ run ++ closing → AllHexDigits run → NoHexDigitFirst closing → ¬ IsPadded found run → NoBinaryAt bytes
not_padded bytes unpadded closing found run e split are ends other padding digits rest x =
    let p = parts_of bytes padding digits rest x in
    let same = parts_found bytes unpadded closing found run padding digits rest e split are ends p in
    other (rw (same.0, same.1) p.padded)

-- ---- bytes that are a binary and nothing else

pub whole_binary : (bytes : List ℕ) (padding : ℕ) (digits rest : List ℕ) (value : List Bool) → IsBinaryAt bytes padding digits rest → SpellsBits bytes value → rest ≡ []
whole_binary bytes padding digits rest value x s =
    let p = parts_of bytes padding digits rest x in
    let q = parts_of bytes s.padding (map hex_digit s.hex_values) [] (alone bytes value s) in
    let found = parts_found bytes (digits ++ (34 ∷ rest)) (34 ∷ rest) padding digits s.padding (map hex_digit s.hex_values) [] p.bytes_are refl p.are_digits no_digit q in
    tail_is 34 34 _ _ found.2
  where
    alone : (bytes : List ℕ) (value : List Bool) (s : SpellsBits bytes value) → IsBinaryAt bytes s.padding (map hex_digit s.hex_values) []
    alone bytes value s = record { front = bytes; value = value; bytes_are = sym (append-nil bytes); spells = s; padding_is = refl; digits_are = refl }

pub no_binary : (bytes : List ℕ) (value : List Bool) → NoBinaryAt bytes → SpellsBits bytes value → ⊥
no_binary bytes value none_there s = none_there s.padding (map hex_digit s.hex_values) [] (record { front = bytes; value = value; bytes_are = sym (append-nil bytes); spells = s; padding_is = refl; digits_are = refl })
