-- Where the parts of a real stand, by what two masks show.
use Rattle.std.proofs.Common.{◌≡◌, ℕ, ◌+◌, ◌-◌, ◌*◌, ◌%◌, ◌^◌, ◌<◌, ◌≤◌, Bool, true, false, not, ◌&&◌, inl, inr, List, length, refl, sym, ap, ◌∙◌, arith, true≢false}
use Rattle.std.specs.Int.Bits.{bit_and, bit_or}
use Rattle.std.specs.Int.Count.{count_trailing_zeros, count_leading_zeros, leading_of_zero}
use Rattle.std.specs.Slice.Scan.{IsFirstPlace}
use Rattle.std.proofs.lemmas.Bool.{cases_lt}
use Rattle.p21_spec_basics.specs.Digits.{is_digit}
use Rattle.p21_shorter_tokens.specs.Masks.{Shows}
use Rattle.p21_shorter_tokens.specs.Places.{is_other_at, is_zero_at, counts_at, ShowDigits, HasPlaces}
use Rattle.p21_shorter_tokens.proofs.MaskBits.{dropped}
use Rattle.p21_shorter_tokens.proofs.MaskPlaces.{both-shown, first-shown, next-shown, last-shown, neither-shown, same-shown}
use Rattle.std.specs.Prelude.{slice_index, nat_eq}

counts : (z d : Bool) → (not z && not (not d)) ≡ (d && not z)
counts true true = refl
counts true false = refl
counts false true = refl
counts false false = refl

-- the first place, where there is a last one
first-before : (p : ℕ → Bool) (e m : ℕ) → e ≤ 64 → Shows p e m → let first = count_trailing_zeros 64 m in let behind = 64 - count_leading_zeros 64 m in
    0 < behind → (first < behind) × IsFirstPlace p 0 behind first
first-before p e m few shows some =
    let none : m ≡ 0 → ⊥ = λ none. omega (arith, ap (count_leading_zeros 64) none, leading_of_zero 64) in
    let first = first-shown p e m few shows (omega arith) in
    let last = last-shown p e m few shows in
    let hit = first.1.hit first.0 in
    let order : count_trailing_zeros 64 m < 64 - count_leading_zeros 64 m = elim (cases_lt (count_trailing_zeros 64 m) (64 - count_leading_zeros 64 m)) [
      | inl before ↦ before
      | inr from ↦ absurd (true≢false (sym hit ∙ last.after (count_trailing_zeros 64 m) from first.0))
    ] in
    (order, record { low = omega arith; high = omega arith; before = first.1.before; hit = λ _. hit })

pub found : (bytes : List ℕ) (at n o z : ℕ) → n ≤ 32 → at + n ≤ length bytes → Shows (is_other_at bytes at) n o → Shows (is_zero_at bytes at) n z → 0 < o → 0 < dropped o → 0 < count_trailing_zeros 64 o → slice_index bytes (at + count_trailing_zeros 64 o) ≡ 46
    → let end = count_trailing_zeros 64 (dropped o) in
    let counted = bit_and (2 ^ 64 - 1 - bit_or z o) (1 * 2 ^ end % 2 ^ 64 - 1) in
    HasPlaces bytes at (count_trailing_zeros 64 o) end (count_trailing_zeros 64 counted) (64 - count_leading_zeros 64 counted)
found bytes at n o z few room others zeros some more digit dot =
    let end = count_trailing_zeros 64 (dropped o) in
    let counted = bit_and (2 ^ 64 - 1 - bit_or z o) (1 * 2 ^ end % 2 ^ 64 - 1) in
    let first = first-shown (is_other_at bytes at) n o (omega arith) others some in
    let next = next-shown (is_other_at bytes at) n o (omega arith) others some more in
    let order = next.0 in
    let low = next.1 in
    let digits : Shows (counts_at bytes at) end counted = same-shown _ (counts_at bytes at) end counted (λ i _. counts (is_zero_at bytes at i) (is_digit (slice_index bytes (at + i))))
    (neither-shown (is_zero_at bytes at) (is_other_at bytes at) n z o end (omega arith) low zeros others) in
    record {
      some = digit;
      dot = dot;
      ordered = order;
      within = omega arith;
      near = omega arith;
      point_is = record { low = omega arith; high = omega arith; before = first.1.before; hit = λ _. first.1.hit first.0 };
      between = next.3;
      end_is = next.2;
      last_is = last-shown (counts_at bytes at) end counted (omega arith) digits;
      first_is = first-before (counts_at bytes at) end counted (omega arith) digits;
    }

-- two rows of 16
pub two-rows : (bytes : List ℕ) (at low high zeros more : ℕ) → at + 32 ≤ length bytes → Shows (is_other_at bytes at) 16 low → Shows (is_other_at bytes (at + 16)) 16 high
    → Shows (is_zero_at bytes at) 16 zeros → Shows (is_zero_at bytes (at + 16)) 16 more → ShowDigits bytes at (bit_or low (high * 2 ^ 16 % 2 ^ 64)) (bit_or zeros (more * 2 ^ 16 % 2 ^ 64))
two-rows bytes at low high zeros more room a b c d =
    let on : (i : ℕ) → at + 16 + i ≡ at + (16 + i) = λ i. omega arith in
    record {
      count = 32;
      few = omega arith;
      within = room;
      others_shown = both-shown (is_other_at bytes at) 16 16 low high (omega arith) a (same-shown (is_other_at bytes (at + 16)) _ 16 high (λ i _. ap (λ k. not (is_digit (slice_index bytes k))) (on i)) b);
      zeros_shown = both-shown (is_zero_at bytes at) 16 16 zeros more (omega arith) c (same-shown (is_zero_at bytes (at + 16)) _ 16 more (λ i _. ap (λ k. nat_eq (slice_index bytes k) 48) (on i)) d);
    }

-- the first place is one of theirs
pub first-within : (bytes : List ℕ) (at o z : ℕ) → ShowDigits bytes at o z → 0 < o → at + count_trailing_zeros 64 o < length bytes
first-within bytes at o z shown some =
    let first = first-shown (is_other_at bytes at) shown.count o (omega (arith, shown.few)) shown.others_shown some in
    omega (arith, first.0, shown.within)
