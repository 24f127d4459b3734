-- Binaries.
use Rattle.std.proofs.Common.{◌≡◌, ℕ, ◌+◌, ◌-◌, ◌*◌, Bool, List, [], ◌∷◌, length, map, take, drop, ap, sym, subst, ◌∙◌, arith, length-append}
use Rattle.std.proofs.lemmas.List.{length-map}
use Rattle.std.proofs.Math.Seq.{take-append_seam}
use Rattle.p21_spec_basics.specs.Digits.{hex_digit}
use Rattle.p21_spec_exchange.proofs.BitSpellings.{bits_spelled_once, length_spelled}
use Rattle.p21_spec_exchange.specs.Binary.{SpellsBits}
use Rattle.p21_spec_exchange.specs.Token.{IsFollowed, bits}
use Rattle.p21_scan.specs.Binary.{IsBinaryAt}
use Rattle.p21_shorter_tokens.specs.LeadingToken.{IsCanonicalLeadingToken}

followed-bits : (value : List Bool) (spelling rest : List ℕ) → IsFollowed (bits value) spelling rest
followed-bits value spelling [] = tt
followed-bits value spelling (byte ∷ rest) = tt

-- the padding is a part of the bits
pub size-at_front : (bytes : List ℕ) (padding : ℕ) (digits rest : List ℕ) (x : IsBinaryAt bytes padding digits rest) → padding + length x.value ≡ 4 * length digits
size-at_front bytes padding digits rest x =
    omega (arith, length_spelled x.front x.value x.spells, ap length x.digits_are, length-map x.spells.hex_values hex_digit, x.padding_is)

pub bits-at_front : (bytes : List ℕ) (padding : ℕ) (digits rest : List ℕ) → IsBinaryAt bytes padding digits rest
    → (value : List Bool) × (4 * length digits - padding ≡ length value) × IsCanonicalLeadingToken bytes (length digits + 3) (bits value)
bits-at_front bytes padding digits rest x =
    let count : length x.front ≡ length digits + 3 = omega (arith, ap length x.spells.bytes_are, length-append (map hex_digit x.spells.hex_values) (34 ∷ []), ap length x.digits_are) in
    let front : take (length digits + 3) bytes ≡ x.front = ap (λ (n : ℕ). take n bytes) (sym count) ∙ ap (take (length x.front)) x.bytes_are ∙ take-append_seam x.front rest in
    let spells : SpellsBits (take (length digits + 3) bytes) x.value = subst (λ (xs : List ℕ). SpellsBits xs x.value) (sym front) x.spells in (
      x.value,
      omega (arith, size-at_front bytes padding digits rest x),
      record {
        stands = record { within = omega (arith, count, ap length x.bytes_are, length-append x.front rest); spells = spells; followed = followed-bits x.value (take (length digits + 3) bytes) (drop (length digits + 3) bytes) };
        own = bits_spelled_once (take (length digits + 3) bytes) x.value spells;
      },
    )
