-- Bytes of a class behind those that are known to be of it.
use Rattle.std.proofs.Common.{◌≡◌, ℕ, suc, ◌+◌, ◌-◌, ◌*◌, ◌<◌, ◌≤◌, Bool, true, false, not, cond, inl, inr, List, [], ◌∷◌, map, length, slice_index, sym, ap, ◌∙◌, arith}
use Rattle.std.proofs.lemmas.Bool.{cases_lt, not-true, not-false}
use Rattle.std.specs.List.{prefix_len}
use Rattle.std.proofs.lemmas.Simd.{none_from_empty_mask, trailing_mask_l, run_in_chunk_le, run_in_chunk_fails, run_in_chunk_stops, length-chunk, get_or-chunk}
use lib.Count.{count_trailing_zeros}
use lib.Lanes.{chunk, mask_l}
use Rattle.p21_scan.specs.Class.{AreOfClass, is_of_class, is_of_other_class}
use Rattle.p21_scan.specs.declared.class.Class.{Class}

first-set : (b : Bool) (n m l : ℕ) → 0 < cond b 1 0 + 2 * n → (0 < n → m < l) → cond (not b) (1 + m) 0 < suc l
first-set true n m l some f = omega arith
first-set false n m l some f = omega (arith, f (omega arith))

-- where a bit is set, not all lanes come before the first of them
pub some-short : (p : ℕ → Bool) (xs : List ℕ) → 0 < mask_l (map p xs) → prefix_len (λ x. not (p x)) xs < length xs
some-short p [] some = absurd (omega arith)
some-short p (x ∷ xs) some = first-set (p x) (mask_l (map p xs)) (prefix_len (λ y. not (p y)) xs) (length xs) some (some-short p xs)

module _ (class : Class) (bytes : List ℕ) (count : ℕ) (known : AreOfClass class bytes count) where
  more : (n : ℕ) → count + n ≤ length bytes → ((k : ℕ) → count ≤ k → k < count + n → is_of_other_class class (slice_index bytes k) ≡ false) → AreOfClass class bytes (count + n)
  more n room h = record {
    within = room;
    each = λ k l. elim (cases_lt k count) [
      | inl less ↦ known.each k less
      | inr from ↦ not-false _ (h k from l)
    ];
  }

  -- a whole row has no other
  pub all-more : count + 32 ≤ length bytes → mask_l (map (is_of_other_class class) (chunk count 32 bytes)) ≡ 0 → AreOfClass class bytes (count + 32)
  all-more room none = more 32 room (λ k l m. none_from_empty_mask (is_of_other_class class) bytes count 32 0 room none k l m)

  -- those before the first other one of a row
  pub some-more : count + 32 ≤ length bytes → 0 < mask_l (map (is_of_other_class class) (chunk count 32 bytes)) → AreOfClass class bytes (count + count_trailing_zeros 64 (mask_l (map (is_of_other_class class) (chunk count 32 bytes))))
  some-more room some =
      let n = count_trailing_zeros 64 (mask_l (map (is_of_other_class class) (chunk count 32 bytes))) in
      let counted = trailing_mask_l (is_of_other_class class) 64 (chunk count 32 bytes) (omega (arith, length-chunk count 32 bytes room)) some in
      let within = run_in_chunk_le (is_of_other_class class) bytes count 32 n 0 room counted in
      more n (omega arith) (λ k l m. run_in_chunk_fails (is_of_other_class class) bytes count 32 n 0 room counted k l m)

  -- the first other one of a row
  pub some-ends : count + 32 ≤ length bytes → 0 < mask_l (map (is_of_other_class class) (chunk count 32 bytes)) → is_of_class class (slice_index bytes (count + count_trailing_zeros 64 (mask_l (map (is_of_other_class class) (chunk count 32 bytes))))) ≡ false
  some-ends room some =
      let row = chunk count 32 bytes in
      let long : length row ≡ 32 = length-chunk count 32 bytes room in
      let n = count_trailing_zeros 64 (mask_l (map (is_of_other_class class) row)) in
      let counted = trailing_mask_l (is_of_other_class class) 64 row (omega (arith, long)) some in
      let short : n < 32 = omega (arith, counted, long, some-short (is_of_other_class class) row some) in
      not-true _ (run_in_chunk_stops (is_of_other_class class) bytes count 32 n 0 room counted short)

  -- those at the front of what is left
  pub few-more : (n : ℕ) → AreOfClass class (chunk count (length bytes - count) bytes) n → AreOfClass class bytes (count + n)
  few-more n h =
      let left : ℕ = length bytes - count in
      let w = h.within in
      let i = known.within in
      let size : length (chunk count left bytes) ≡ left = length-chunk count left bytes (omega arith) in
      more n (omega arith) (λ k l m.
      let j : ℕ = k - count in
      let e : count + j ≡ k = omega arith in
      let at = h.each j (omega arith) in
      ap not (ap (is_of_class class) (sym (get_or-chunk count left bytes j 0 (omega arith) ∙ ap (slice_index bytes) e)) ∙ at))

  -- the first other one of what is left
  pub few-ends : (n : ℕ) → (n < length (chunk count (length bytes - count) bytes) → is_of_class class (slice_index (chunk count (length bytes - count) bytes) n) ≡ false) → count + n < length bytes → is_of_class class (slice_index bytes (count + n)) ≡ false
  few-ends n h l =
      let left : ℕ = length bytes - count in
      let i = known.within in
      let size : length (chunk count left bytes) ≡ left = length-chunk count left bytes (omega arith) in
      ap (is_of_class class) (sym (get_or-chunk count left bytes n 0 (omega arith))) ∙ h (omega (arith, size))
