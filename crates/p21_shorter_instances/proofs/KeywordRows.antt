-- Rows of bytes that are compared in lanes.
use Rattle.std.proofs.Common.{◌≡◌, ◌≢◌, ℕ, ◌+◌, ◌^◌, ◌%◌, ◌<◌, ◌≤◌, eqb, Bool, true, false, cond, List, [], length, map, take, get_or, refl, sym, subst, ap, ◌∙◌, arith, w8, w64}
use Rattle.std.specs.Int.{trailing_ones}
use Rattle.std.specs.Simd.Lanes.{chunk, mask_l, top, zip2}
use Rattle.std.proofs.lemmas.Bool.Decides.{Decides-eqb}
use Rattle.std.proofs.lemmas.List.{ext_get_or, get_or-take, length-take-le}
use Rattle.std.proofs.lemmas.Nat.Bits.{bit_at-trailing_ones}
use Rattle.std.proofs.lemmas.Simd.{bit_mask_l, get_or-chunk, get_or-zip2, length-chunk, length-zip2, mask_l-lt, mask_l-mod, tops_compared}

bit-set : (b : Bool) → ◌≡◌ {A = ℕ} (cond b 1 0) 1 → b ≡ true
bit-set true one = refl
bit-set false one = cc

lanes-many : (row bytes : List ℕ) → length row ≡ 32 → 32 ≤ length bytes → length (zip2 eqb (chunk 0 32 bytes) row) ≡ 32
lanes-many row bytes long within =
    let loaded = length-chunk 0 32 bytes (omega (arith, within)) in
    length-zip2 eqb (chunk 0 32 bytes) row (loaded ∙ sym long) ∙ loaded

-- bytes before the first lane that differs are the same
fronts-same : (row bytes : List ℕ) (count : ℕ) → length row ≡ 32 → 32 ≤ length bytes
    → count ≤ trailing_ones w64 (mask_l (zip2 eqb (chunk 0 32 bytes) row)) → count ≤ 32
    → take count row ≡ take count bytes
fronts-same row bytes count long within before few =
    ext_get_or 0 (take count row) (take count bytes) (of_row ∙ sym of_bytes) (λ i to.
    (let below : i < count = omega (arith, to, of_row) in
    get_or-take count row i 0 below ∙ same i below ∙ sym (get_or-take count bytes i 0 below)))
  where
    of_row : length (take count row) ≡ count
    of_row = length-take-le count row (omega (arith, few, long))

    of_bytes : length (take count bytes) ≡ count
    of_bytes = length-take-le count bytes (omega (arith, few, within))

    lanes : List Bool
    lanes = zip2 eqb (chunk 0 32 bytes) row

    of_lanes : length (chunk 0 32 bytes) ≡ 32
    of_lanes = length-chunk 0 32 bytes (omega (arith, within))

    many : length lanes ≡ 32
    many = lanes-many row bytes long within

    small : mask_l lanes + 1 < 2 ^ 64
    small = omega (arith, mask_l-lt lanes, ap (λ (n : ℕ). 2 ^ n) many)

    same : (i : ℕ) → i < count → get_or row i 0 ≡ get_or bytes i 0
    same i below =
        let set = bit-set (get_or lanes i false) (sym (bit_mask_l lanes i)
        ∙ (bit_at-trailing_ones w64 (mask_l lanes) small).2 i (omega (arith, below, before))) in
        let tested = sym (get_or-zip2 eqb (chunk 0 32 bytes) row i 0 0 false (omega (arith, below, few, of_lanes))
        (omega (arith, below, few, long))) ∙ set in
        sym ((Decides-eqb (get_or (chunk 0 32 bytes) i 0) (get_or row i 0)).0 tested)
        ∙ get_or-chunk 0 32 bytes i 0 (omega (arith, below, few))
        ∙ ap (λ (n : ℕ). get_or bytes n 0) (let first : 0 + i ≡ i = omega arith in first)

-- the same by the mask of the lanes
pub fronts-masked : (row bytes : List ℕ) (count : ℕ) → length row ≡ 32 → 32 ≤ length bytes
    → count ≤ trailing_ones w64 (mask_l (map (top 7) (zip2 (λ a b. cond (eqb a b) 255 0) (chunk 0 32 bytes) row)) % 2 ^ 64) → count ≤ 32
    → take count row ≡ take count bytes
fronts-masked row bytes count long within before few =
    let lanes = chunk 0 32 bytes in
    let many = lanes-many row bytes long within in
    let mask : mask_l (map (top 7) (zip2 (λ a b. cond (eqb a b) 255 0) lanes row)) % 2 ^ 64 ≡ mask_l (zip2 eqb lanes row) =
    ap (λ (ms : List Bool). mask_l ms % 2 ^ 64) (tops_compared w8 eqb lanes row)
    ∙ mask_l-mod (zip2 eqb lanes row) 64 (omega (arith, many)) in
    fronts-same row bytes count long within (subst (λ (m : ℕ). count ≤ trailing_ones w64 m) mask before) few

-- some bytes at the front
pub front-some : (bytes : List ℕ) (count : ℕ) → 0 < count → count < length bytes → take count bytes ≢ []
front-some bytes count some within none = let size = length-take-le count bytes (omega (arith, within)) in
    let empty : length (take count bytes) ≡ 0 = ap length none in omega (arith, size, empty, some)
