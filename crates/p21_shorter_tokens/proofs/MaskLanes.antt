-- What the mask of a comparison shows of the bytes that were loaded, lane by lane.
use Rattle.std.proofs.Common.{◌≡◌, ℕ, ◌+◌, ◌-◌, ◌%◌, ◌^◌, ◌<◌, ◌≤◌, leb, eqb, Bool, true, false, cond, not, ◌&&◌, List, map, length, refl, sym, ap, ◌∙◌, subst, arith, w8}
use Rattle.std.specs.Int.{bit_at}
use Rattle.std.specs.Simd.Lanes.{mask_l, top, zip2, chunk}
use Rattle.std.proofs.Math.ListN.{get_or, replicate}
use Rattle.std.proofs.lemmas.Bool.Decides.{nat_tests}
use Rattle.std.proofs.lemmas.List.{length-map, get_or-map, map-id}
use Rattle.std.proofs.lemmas.Simd.{length-chunk, get_or-chunk, zip2_of_maps, splat_is_map, tops_compared, mask_l-lt, mask_l-mod, bit_mask_l}
use Rattle.p21_shorter_tokens.specs.Masks.{Shows}

-- where each lane was tested
shows-tests : (p test : ℕ → Bool) (bytes : List ℕ) (at n : ℕ) → n ≤ 64 → at + n ≤ length bytes → ((i : ℕ) → i < n → test (get_or bytes (at + i) 0) ≡ p i)
    → Shows p n (mask_l (map test (chunk at n bytes)) % 2 ^ 64)
shows-tests p test bytes at n few room same =
    let row = chunk at n bytes in
    let long : length row ≡ n = length-chunk at n bytes room in
    let tests : length (map test row) ≡ n = length-map row test ∙ long in
    let whole : mask_l (map test row) % 2 ^ 64 ≡ mask_l (map test row) = mask_l-mod (map test row) 64 (omega (arith, tests)) in
    record {
      within = omega (arith, whole, mask_l-lt (map test row), ap (λ l. 2 ^ l) tests);
      bits = λ i to.
          ap (λ m. bit_at m i) whole ∙ bit_mask_l (map test row) i
          ∙ ap (λ t. cond t 1 0) (get_or-map test row i 0 false (omega (arith, long)) ∙ ap test (get_or-chunk at n bytes i 0 to) ∙ same i to);
    }

abbrev minus : ℕ → ℕ → ℕ
minus a b = (a + (256 - b)) % 256

-- the number of a byte behind `0` is at least 10 just where it is no digit
other-lane : (b : ℕ) → b < 256 → leb 10 (minus b 48) ≡ not (leb 48 b && leb b 57)
other-lane b small = by (leb 10 (minus b 48)) (leb 48 b) (leb b 57) refl refl refl
  where
    by : (s t u : Bool) → leb 10 (minus b 48) ≡ s → leb 48 b ≡ t → leb b 57 ≡ u → s ≡ not (t && u)
    by true true true e f g = absurd (grind (arith, nat_tests))
    by true true false e f g = refl
    by true false u e f g = refl
    by false true true e f g = refl
    by false true false e f g = absurd (grind (arith, nat_tests))
    by false false u e f g = absurd (grind (arith, nat_tests))

-- and 0 just where it is `0`
zero-lane : (b : ℕ) → b < 256 → eqb (minus b 48) 0 ≡ eqb b 48
zero-lane b small = by (eqb (minus b 48) 0) (eqb b 48) refl refl
  where
    by : (s t : Bool) → eqb (minus b 48) 0 ≡ s → eqb b 48 ≡ t → s ≡ t
    by true true e f = refl
    by true false e f = absurd (grind (arith, nat_tests))
    by false true e f = absurd (grind (arith, nat_tests))
    by false false e f = refl

module _ (bytes : List ℕ) (at n : ℕ) (few : n ≤ 64) (room : at + n ≤ length bytes) (fits : (k : ℕ) → get_or bytes k 0 < 256) where
  differences : zip2 minus (chunk at n bytes) (replicate n 48) ≡ map (λ b. minus b 48) (chunk at n bytes)
  differences =
      let row = chunk at n bytes in
      zip2_of_maps minus (λ b. b) (λ _. 48) row (sym (map-id row)) (splat_is_map row n 48 (length-chunk at n bytes room))

  pub others-shown : Shows (λ i. not (leb 48 (get_or bytes (at + i) 0) && leb (get_or bytes (at + i) 0) 57)) n
      (mask_l (map (top 7) (zip2 (λ a b. cond (leb a b) 255 0) (replicate n 10) (zip2 minus (chunk at n bytes) (replicate n 48)))) % 2 ^ 64)
  others-shown =
      let row = chunk at n bytes in
      let p : ℕ → Bool = λ i. not (leb 48 (get_or bytes (at + i) 0) && leb (get_or bytes (at + i) 0) 57) in
      let tests = tops_compared w8 leb (replicate n 10) (zip2 minus row (replicate n 48))
      ∙ zip2_of_maps leb (λ _. 10) (λ b. minus b 48) row (splat_is_map row n 10 (length-chunk at n bytes room)) differences in
      subst (λ l. Shows p n (mask_l l % 2 ^ 64)) (sym tests)
      (shows-tests p (λ b. leb 10 (minus b 48)) bytes at n few room (λ i _. other-lane (get_or bytes (at + i) 0) (fits (at + i))))

  pub zeros-shown : Shows (λ i. eqb (get_or bytes (at + i) 0) 48) n
      (mask_l (map (top 7) (zip2 (λ a b. cond (eqb a b) 255 0) (zip2 minus (chunk at n bytes) (replicate n 48)) (replicate n 0))) % 2 ^ 64)
  zeros-shown =
      let row = chunk at n bytes in
      let p : ℕ → Bool = λ i. eqb (get_or bytes (at + i) 0) 48 in
      let tests = tops_compared w8 eqb (zip2 minus row (replicate n 48)) (replicate n 0)
      ∙ zip2_of_maps eqb (λ b. minus b 48) (λ _. 0) row differences (splat_is_map row n 0 (length-chunk at n bytes room)) in
      subst (λ l. Shows p n (mask_l l % 2 ^ 64)) (sym tests)
      (shows-tests p (λ b. eqb (minus b 48) 0) bytes at n few room (λ i _. zero-lane (get_or bytes (at + i) 0) (fits (at + i))))
