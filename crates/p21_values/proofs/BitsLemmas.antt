-- Lemmas on the token of a binary.
use Rattle.std.proofs.Common.{◌≡◌, ℕ, ◌+◌, ◌-◌, ◌↔◌, Bool, false, List, [], ◌∷◌, ◌++◌, length, get_or, map, take, drop, replicate, IsTrue, refl, ap, sym, ◌∙◌, subst, arith, nat_eq, length-append}
use Rattle.std.proofs.lemmas.Bool.Decides.{Decides-eqb}
use Rattle.std.proofs.lemmas.Slice.Eq.{slice_eq-Decides}
use Rattle.std.specs.Bool.{Decides}
use Rattle.std.specs.Cmp.Lexicographic.{pointwise}
use Rattle.std.proofs.lemmas.List.{append-nil, take_at, drop_at, length-map, length-replicate}
use Rattle.std.specs.List.{flat_map}
use Rattle.p21_scan.proofs.HexRuns.{hex_values_forth}
use Rattle.p21_scan.specs.Binary.{IsBinaryAt, bits_of_digits}
use Rattle.p21_spec_exchange.proofs.BitSpellings.{bits_spelled_once}
use Rattle.p21_spec_exchange.specs.Binary.{SpellsBits, four_bits}
use Rattle.p21_spec_basics.specs.Digits.{hex_digit}
use Rattle.p21_spec_exchange.specs.Spelling.{bits_spelling}
use Rattle.p21_values.specs.Bits.{bits_of}

bits_of-token : (p : ℕ) (digits : List ℕ) → bits_of (34 ∷ (48 + p) ∷ (digits ++ (34 ∷ []))) ≡ drop p (bits_of_digits digits)
bits_of-token p digits =
    let front : take (length (digits ++ (34 ∷ [])) - 1) (digits ++ (34 ∷ [])) ≡ digits = take_at digits (34 ∷ []) (length (digits ++ (34 ∷ [])) - 1) (omega (arith, length-append digits (34 ∷ []))) in
    let back : 48 + p - 48 ≡ p = omega arith in
    rw (front, back) refl

pub bits_of-spelled : (bytes : List ℕ) (value : List Bool) → SpellsBits bytes value → bits_of bytes ≡ value
bits_of-spelled bytes value s =
    let own = hex_values_forth s.hex_values s.are_hex_values in
    let bits : bits_of_digits (map hex_digit s.hex_values) ≡ replicate s.padding false ++ value = ap (flat_map four_bits) own.1 ∙ s.value_is in
    ap bits_of s.bytes_are ∙ bits_of-token s.padding (map hex_digit s.hex_values) ∙ ap (drop s.padding) bits ∙ drop_at (replicate s.padding false) value s.padding (length-replicate s.padding false)

-- a binary with nothing behind it
pub spells_alone : (bytes : List ℕ) (padding : ℕ) (digits rest : List ℕ) → IsBinaryAt bytes padding digits rest → length rest ≡ 0 → SpellsBits bytes (bits_of bytes)
spells_alone bytes padding digits [] x none_left =
    let spells : SpellsBits bytes x.value = subst (λ (xs : List ℕ). SpellsBits xs x.value) (sym (x.bytes_are ∙ append-nil x.front)) x.spells in
    subst (SpellsBits bytes) (sym (bits_of-spelled bytes x.value spells)) spells
spells_alone bytes padding digits (byte ∷ rest) x none_left = absurd (omega (arith, none_left))

pub length_token : (bytes : List ℕ) (value : List Bool) (d : ℕ) (s : SpellsBits bytes value) → (length bytes ≡ length s.hex_values + 3) × (get_or bytes 1 d ≡ 48 + s.padding)
length_token bytes value d s = (
  omega (arith, ap length s.bytes_are, length-append (map hex_digit s.hex_values) (34 ∷ []), length-map s.hex_values hex_digit),
  ap (λ (bs : List ℕ). get_or bs 1 d) s.bytes_are,
)

-- tokens are equal exactly if their bits are
pub equal_tokens : (a b : List ℕ) (v w : List Bool) → SpellsBits a (bits_of a) → SpellsBits b (bits_of b) → bits_of a ≡ v → bits_of b ≡ w → (r : Bool) → r ≡ pointwise nat_eq a b → Decides r (v ≡ w)
equal_tokens a b v w s t v_is w_is r e =
    let tokens = slice_eq-Decides Decides-eqb a b r e in (
      λ yes. sym v_is ∙ ap bits_of (tokens.0 yes) ∙ w_is,
      λ same. tokens.1 (bits_spelled_once a (bits_of a) s ∙ ap bits_spelling (v_is ∙ same ∙ sym w_is) ∙ sym (bits_spelled_once b (bits_of b) t)),
    )
