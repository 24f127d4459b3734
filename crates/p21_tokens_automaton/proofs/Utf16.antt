-- Characters in UTF-16, in hex digits.
use Rattle.std.proofs.Common.{◌≡◌, ℕ, ◌+◌, ◌-◌, ◌*◌, ◌/◌, ◌%◌, ◌<◌, ◌≤◌, [], ◌∷◌, ◌++◌, refl, ap, ap₂, ◌∙◌, arith, lt-ltb, le-ltb, append-nil}
use Rattle.std.specs.Char.Escape.{encode_utf16}
use Rattle.std.specs.List.{flat_map}
use Rattle.p21_spec_basics.specs.Digits.{hex_digits}
use Rattle.p21_spec_exchange.specs.Text.{utf16_groups}

encode-one : (c : ℕ) → c < 65536 → encode_utf16 c ≡ c ∷ []
encode-one c h = rw (lt-ltb c 65536 h) refl

encode-pair : (c : ℕ) → 65536 ≤ c → encode_utf16 c ≡ (0xD800 + (c - 65536) / 1024) ∷ (0xDC00 + (c - 65536) % 1024) ∷ []
encode-pair c h = rw (le-ltb c 65536 h) refl

encode-from_pair : (c high low : ℕ) → c ≡ 65536 + (high % 1024) * 1024 + low % 1024 → 0xD800 ≤ high → high ≤ 0xDBFF → 0xDC00 ≤ low → low ≤ 0xDFFF → encode_utf16 c ≡ high ∷ low ∷ []
encode-from_pair c high low e h k m n =
    let first : 0xD800 + (c - 65536) / 1024 ≡ high = omega arith in
    let second : 0xDC00 + (c - 65536) % 1024 ≡ low = omega arith in
    encode-pair c (omega arith) ∙ ap₂ (λ x y. x ∷ y ∷ []) first second

pub groups-one : (c : ℕ) → c < 65536 → utf16_groups c ≡ hex_digits 4 c
groups-one c h = ap (λ x. flat_map (hex_digits 4) x) (encode-one c h) ∙ append-nil (hex_digits 4 c)

pub groups-from_pair : (high low : ℕ) → 0xD800 ≤ high → high ≤ 0xDBFF → 0xDC00 ≤ low → low ≤ 0xDFFF → utf16_groups (65536 + (high % 1024) * 1024 + low % 1024) ≡ hex_digits 4 high ++ hex_digits 4 low
groups-from_pair high low h k m n =
    ap (λ x. flat_map (hex_digits 4) x) (encode-from_pair (65536 + (high % 1024) * 1024 + low % 1024) high low refl h k m n)
    ∙ ap (λ x. hex_digits 4 high ++ x) (append-nil (hex_digits 4 low))

pub groups-pair : (c : ℕ) → 65536 ≤ c → utf16_groups c ≡ hex_digits 4 (0xD800 + (c - 65536) / 1024) ++ hex_digits 4 (0xDC00 + (c - 65536) % 1024)
groups-pair c h =
    ap (λ x. flat_map (hex_digits 4) x) (encode-pair c h)
    ∙ ap (λ x. hex_digits 4 (0xD800 + (c - 65536) / 1024) ++ x) (append-nil (hex_digits 4 (0xDC00 + (c - 65536) % 1024)))
