-- Tokens, spelled and not.
use Rattle.std.proofs.Common.{◌≡◌, ℕ, ◌+◌, Bool, true, false, List, [], ◌∷◌, ◌++◌, map, replicate, refl, sym, subst, ℤ, arith, lit<, lit≤, inl, inr}
use Rattle.std.proofs.lemmas.Bool.Decides.{nat_tests}
use Rattle.std.proofs.lemmas.List.{append-nil}
use Rattle.std.specs.Prelude.{codes}
use Rattle.std.specs.List.{flat_map}
use Rattle.p21_spec_basics.specs.Digits.{hex_digit, IsDigit, AllDigits}
use Rattle.p21_spec_exchange.specs.Number.{none, plus, minus, Exponent, no_exponent, exponent, exponent_bytes, IsExponent, RealForm, SpellsWhole}
use Rattle.p21_spec_exchange.specs.Token.{Token, begin, finish, keyword, user_keyword, name, whole, real, text, item, bits, left, right, comma, semicolon, equals, dollar, star, Spells}
use Rattle.p21_spec_exchange.specs.Binary.{four_bits, SpellsBits}
use Rattle.p21_spec_exchange.specs.Keyword.{IsUpper, IsKeyword}
use Rattle.p21_spec_exchange.specs.Spelling.{bits_spelling}
use Rattle.p21_spec_exchange.proofs.Laying.{keyword_by}
use Rattle.p21_spec_exchange.proofs.Forms.{sign_once, split_once, no_sign_first, no_digit_exponent, NoSignFirst}
use Rattle.p21_spec_basics.proofs.Members.{head_is, tail_is}

one_is_no_letter : IsUpper 49 → ⊥
one_is_no_letter (inl h) = omega (arith, h)
one_is_no_letter (inr h) = omega (arith, h)

-- keywords have capitals alone, user keywords a `!`, and items two points
own-spelled : Spells (user_keyword (codes "OWN")) (codes "!OWN")
own-spelled = (refl, keyword_by (codes "OWN") tt)

red-spelled : Spells (item (codes "RED")) (codes ".RED.")
red-spelled = (refl, keyword_by (codes "RED") tt)

small_letters : IsKeyword (codes "red") → ⊥
small_letters ((inl letter), more) = omega (arith, letter)
small_letters ((inr line), more) = omega (arith, line)

digit_first : IsKeyword (codes "1A") → ⊥
digit_first is = one_is_no_letter is.0

-- `"23B"` is the bits 111011, and spells them canonically
six_bits : List Bool
six_bits = true ∷ true ∷ true ∷ false ∷ true ∷ true ∷ []

six_bits-spelled : SpellsBits (codes "\"23B\"") six_bits
unfolding six_bits
six_bits-spelled = record { padding = 2; hex_values = 3 ∷ 11 ∷ []; padding_is = lit< tt; are_hex_values = (lit< tt, (lit< tt, tt)); bytes_are = refl; value_is = refl }

six_bits-canonical : bits_spelling six_bits ≡ codes "\"23B\""
unfolding six_bits
six_bits-canonical = refl

no_bits : SpellsBits (codes "\"0\"") []
no_bits = record { padding = 0; hex_values = []; padding_is = lit< tt; are_hex_values = tt; bytes_are = refl; value_is = refl }

one_zero-canonical : bits_spelling (false ∷ []) ≡ codes "\"30\""
one_zero-canonical = refl

one_one-canonical : bits_spelling (true ∷ []) ≡ codes "\"31\""
one_one-canonical = refl

-- `"33B"` has a padding bit that is not zero: it spells no bits
three : (h : ℕ) → hex_digit h ≡ 51 → h ≡ 3
three h e = grind (arith, nat_tests)

third_bit : (p : ℕ) (hs : List ℕ) (value : List Bool) → 51 ∷ 51 ∷ 66 ∷ 34 ∷ [] ≡ (48 + p) ∷ (map hex_digit hs ++ (34 ∷ [])) → flat_map four_bits hs ≡ replicate p false ++ value → ⊥
third_bit p [] value e v = let h = head_is 51 34 _ _ (tail_is 51 (48 + p) _ _ e) in omega (arith, h)
third_bit p (h ∷ hs) value e v =
    let p_is : p ≡ 3 = omega (arith, head_is 51 (48 + p) _ _ e) in
    let h_is : h ≡ 3 = three h (sym (head_is 51 (hex_digit h) _ _ (tail_is 51 (48 + p) _ _ e))) in
    let w : flat_map four_bits (3 ∷ hs) ≡ replicate 3 false ++ value = rw (p_is, h_is) at v in
    (cc)

bad_padding : (value : List Bool) → SpellsBits (codes "\"33B\"") value → ⊥
bad_padding value s = third_bit s.padding s.hex_values value (tail_is 34 34 _ _ s.bytes_are) s.value_is

-- `"1"` has a padding and no hex digit
padding_alone : (value : List Bool) → SpellsBits (codes "\"1\"") value → ⊥
padding_alone value s = by s.padding s.hex_values (tail_is 34 34 _ _ s.bytes_are) s.value_is
  where
    by : (p : ℕ) (hs : List ℕ) → 49 ∷ 34 ∷ [] ≡ (48 + p) ∷ (map hex_digit hs ++ (34 ∷ [])) → flat_map four_bits hs ≡ replicate p false ++ value → ⊥
    by p [] e v =
        let p_is : p ≡ 1 = omega (arith, head_is 49 (48 + p) _ _ e) in
        let w : [] ≡ replicate 1 false ++ value = rw p_is at v in
        (cc)
    by p (h ∷ hs) e v =
        let rest = tail_is 49 (48 + p) _ _ e in
        let more : [] ≡ map hex_digit hs ++ (34 ∷ []) = tail_is 34 (hex_digit h) _ _ rest in
        elim hs as (λ ks. [] ≡ map hex_digit ks ++ (34 ∷ []) → ⊥) [ [] ↦ λ x. cc | k ∷ ks ↦ λ x. cc ] more

-- `1.E` spells nothing
broken_exponent : (x : Exponent) → IsExponent x → 69 ∷ [] ≡ exponent_bytes x → ⊥
broken_exponent no_exponent p e = cc
broken_exponent (exponent none []) p e = omega (arith, p.0)
broken_exponent (exponent none (d ∷ ds)) p e = cc
broken_exponent (exponent plus ds) p e = cc
broken_exponent (exponent minus ds) p e = cc

point_is_no_digit : IsDigit 46 → ⊥
point_is_no_digit d = omega (arith, d)

e_is_no_digit : IsDigit 69 → ⊥
e_is_no_digit d = omega (arith, d)

one_is_no_sign : NoSignFirst (codes "1.E")
one_is_no_sign = (λ e. cc, λ e. cc)

no_form : RealForm (codes "1.E") → ⊥
no_form f =
    let signs = sign_once none f.sign (codes "1.E") _ one_is_no_sign (no_sign_first f.whole _ f.some_digits f.are_digits) f.bytes_are in
    let wholes = split_once (49 ∷ []) f.whole (46 ∷ 69 ∷ []) _ ((lit≤ tt, lit≤ tt), tt) f.are_digits point_is_no_digit point_is_no_digit signs.1 in
    let fractions = split_once [] f.fraction (69 ∷ []) _ tt f.are_fraction_digits e_is_no_digit (no_digit_exponent f.power) (tail_is 46 46 _ _ wholes.1) in
    broken_exponent f.power f.is_exponent fractions.1

no_keyword : (word : List ℕ) → codes "1.E" ≡ word → IsKeyword word → ⊥
no_keyword word e k = let own : IsKeyword (codes "1.E") = subst IsKeyword (sym e) k in one_is_no_letter own.0

no_whole : (z : ℤ) → SpellsWhole (codes "1.E") z → ⊥
no_whole z s =
    let rest : NoSignFirst (s.digits ++ []) = no_sign_first s.digits [] s.some_digits s.are_digits in
    let first : NoSignFirst s.digits = rw append-nil at rest in
    let signs = sign_once none s.sign (codes "1.E") s.digits one_is_no_sign first s.bytes_are in
    let own : AllDigits (codes "1.E") = subst AllDigits (sym signs.1) s.are_digits in
    point_is_no_digit own.1.0

pub spells_nothing : (token : Token) → Spells token (codes "1.E") → ⊥
spells_nothing begin e = let h = head_is 49 73 _ _ e in omega (arith, h)
spells_nothing finish e = let h = head_is 49 69 _ _ e in omega (arith, h)
spells_nothing (keyword word) s = no_keyword word s.0 s.1
spells_nothing (user_keyword word) s = let h = head_is 49 33 _ _ s.0 in omega (arith, h)
spells_nothing (name n) s = let h = head_is 49 35 _ _ s.form.bytes_are in omega (arith, h)
spells_nothing (whole z) s = no_whole z s
spells_nothing (real d) s = no_form s.form
spells_nothing (text chars) s = let h = head_is 49 39 _ _ s.bytes_are in omega (arith, h)
spells_nothing (item word) s = let h = head_is 49 46 _ _ s.0 in omega (arith, h)
spells_nothing (bits value) s = let h = head_is 49 34 _ _ s.bytes_are in omega (arith, h)
spells_nothing left e = let h = head_is 49 40 _ _ e in omega (arith, h)
spells_nothing right e = let h = head_is 49 41 _ _ e in omega (arith, h)
spells_nothing comma e = let h = head_is 49 44 _ _ e in omega (arith, h)
spells_nothing semicolon e = let h = head_is 49 59 _ _ e in omega (arith, h)
spells_nothing equals e = let h = head_is 49 61 _ _ e in omega (arith, h)
spells_nothing dollar e = let h = head_is 49 36 _ _ e in omega (arith, h)
spells_nothing star e = let h = head_is 49 42 _ _ e in omega (arith, h)
