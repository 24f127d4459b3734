-- Characters in UTF-8 and the numbers that a reader makes of their bytes.
use Rattle.std.proofs.Common.{◌≡◌, ℕ, ◌+◌, ◌-◌, ◌*◌, ◌/◌, ◌%◌, ◌<◌, ◌≤◌, [], ◌∷◌, refl, subst, ◌∙◌, arith, lt-ltb, le-ltb}
use Rattle.std.specs.Char.{encode_utf8}
use Rattle.p21_tokens_automaton.specs.Step.{utf8_value}
use Rattle.p21_tokens_automaton.proofs.TextFits.{LeadsToLast, LeadsToSecond, LeadsToThird}

pub encode-two : (c : ℕ) → 128 ≤ c → c < 2048 → encode_utf8 c ≡ (192 + c / 64) ∷ (128 + c % 64) ∷ []
unfolding encode_utf8
encode-two c a b = rw (le-ltb c 128 a, lt-ltb c 2048 b) refl

pub encode-three : (c : ℕ) → 2048 ≤ c → c < 65536 → encode_utf8 c ≡ (224 + c / 4096) ∷ (128 + (c / 64) % 64) ∷ (128 + c % 64) ∷ []
unfolding encode_utf8
encode-three c a b = let below : 128 ≤ c = omega arith in rw (le-ltb c 128 below, le-ltb c 2048 a, lt-ltb c 65536 b) refl

pub encode-four : (c : ℕ) → 65536 ≤ c → encode_utf8 c ≡ (240 + c / 262144) ∷ (128 + (c / 4096) % 64) ∷ (128 + (c / 64) % 64) ∷ (128 + c % 64) ∷ []
unfolding encode_utf8
encode-four c a =
    let below : 128 ≤ c = omega arith in
    let small : 2048 ≤ c = omega arith in
    rw (le-ltb c 128 below, le-ltb c 2048 small, le-ltb c 65536 a) refl

two_equal : (a b x y : ℕ) → a ≡ x → b ≡ y → a ∷ b ∷ [] ≡ x ∷ y ∷ []
two_equal a b x y e f = cc

three_equal : (a b c x y z : ℕ) → a ≡ x → b ≡ y → c ≡ z → a ∷ b ∷ c ∷ [] ≡ x ∷ y ∷ z ∷ []
three_equal a b c x y z e f g = cc

four_equal : (a b c d w x y z : ℕ) → a ≡ w → b ≡ x → c ≡ y → d ≡ z → a ∷ b ∷ c ∷ d ∷ [] ≡ w ∷ x ∷ y ∷ z ∷ []
four_equal a b c d w x y z e f g h = cc

-- the bytes of a character from its bits
two_bytes_at : (c high last : ℕ) → c ≡ high * 64 + (last - 128) → 2 ≤ high → high < 32 → 128 ≤ last → last ≤ 191 → (128 ≤ c) × (encode_utf8 c ≡ (192 + high) ∷ last ∷ [])
two_bytes_at c high last e h k m n =
    let from : 128 ≤ c = omega arith in
    (from, encode-two c from (omega arith) ∙ two_equal (192 + c / 64) (128 + c % 64) (192 + high) last (omega arith) (omega arith))

three_bytes_at : (c high second last : ℕ) → c ≡ high * 4096 + (second - 128) * 64 + (last - 128) → 32 ≤ high * 64 + (second - 128) → high < 16 → 128 ≤ second → second ≤ 191 → 128 ≤ last → last ≤ 191
    → (128 ≤ c) × (encode_utf8 c ≡ (224 + high) ∷ second ∷ last ∷ [])
three_bytes_at c high second last e h k m n p q = (
  omega arith,
  encode-three c (omega arith) (omega arith)
      ∙ three_equal (224 + c / 4096) (128 + (c / 64) % 64) (128 + c % 64) (224 + high) second last (omega arith) (omega arith) (omega arith),
)

four_bytes_at : (c high second third last : ℕ) → c ≡ high * 262144 + (second - 128) * 4096 + (third - 128) * 64 + (last - 128) → 16 ≤ high * 64 + (second - 128) → 128 ≤ second → second ≤ 191 → 128 ≤ third → third ≤ 191 → 128 ≤ last → last ≤ 191
    → (128 ≤ c) × (encode_utf8 c ≡ (240 + high) ∷ second ∷ third ∷ last ∷ [])
four_bytes_at c high second third last e h m n p q r s = (
  omega arith,
  encode-four c (omega arith)
      ∙ four_equal (240 + c / 262144) (128 + (c / 4096) % 64) (128 + (c / 64) % 64) (128 + c % 64) (240 + high) second third last (omega arith) (omega arith) (omega arith) (omega arith),
)

-- The first byte of a character: what it and the bytes behind it are

pub two-lead : (lead : ℕ) → 194 ≤ lead → lead ≤ 223 → LeadsToLast (lead % 32) (lead ∷ [])
two-lead lead h k byte m n =
    let is : 192 + lead % 32 ≡ lead = omega arith in
    subst (λ x. (128 ≤ utf8_value (lead % 32) byte) × (encode_utf8 (utf8_value (lead % 32) byte) ≡ x ∷ byte ∷ [])) is
    (two_bytes_at (utf8_value (lead % 32) byte) (lead % 32) byte (omega arith) (omega arith) (omega arith) m n)

utf8_value-small : (value byte : ℕ) → value < 32768 → 128 ≤ byte → byte ≤ 191 → utf8_value value byte ≡ value * 64 + (byte - 128)
utf8_value-small value byte h m n = omega arith

pub three-lead : (lead high low top : ℕ) → 224 + high ≡ lead → high < 16 → 128 ≤ low → top ≤ 191 → 32 ≤ high * 64 + (low - 128) → LeadsToSecond low top high (lead ∷ [])
three-lead lead high low top is small from to least second m n last p q =
    let a : utf8_value high second ≡ high * 64 + (second - 128) = utf8_value-small high second (omega arith) (omega arith) (omega arith) in
    let b : utf8_value (utf8_value high second) last ≡ utf8_value high second * 64 + (last - 128) = utf8_value-small (utf8_value high second) last (omega arith) p q in
    let c = utf8_value (utf8_value high second) last in
    subst (λ x. (128 ≤ c) × (encode_utf8 c ≡ x ∷ second ∷ last ∷ [])) is
    (three_bytes_at c high second last (omega arith) (omega arith) small (omega arith) (omega arith) p q)

pub four-lead : (lead high low top : ℕ) → 240 + high ≡ lead → high < 8 → 128 ≤ low → top ≤ 191 → 16 ≤ high * 64 + (low - 128) → LeadsToThird low top high (lead ∷ [])
four-lead lead high low top is small from to least second m n third p q last r s =
    let a : utf8_value high second ≡ high * 64 + (second - 128) = utf8_value-small high second (omega arith) (omega arith) (omega arith) in
    let b : utf8_value (utf8_value high second) third ≡ utf8_value high second * 64 + (third - 128) = utf8_value-small (utf8_value high second) third (omega arith) p q in
    let d : utf8_value (utf8_value (utf8_value high second) third) last ≡ utf8_value (utf8_value high second) third * 64 + (last - 128) = utf8_value-small (utf8_value (utf8_value high second) third) last (omega arith) r s in
    let c = utf8_value (utf8_value (utf8_value high second) third) last in
    subst (λ x. (128 ≤ c) × (encode_utf8 c ≡ x ∷ second ∷ third ∷ last ∷ [])) is
    (four_bytes_at c high second third last (omega arith) (omega arith) (omega arith) (omega arith) p q r s)
