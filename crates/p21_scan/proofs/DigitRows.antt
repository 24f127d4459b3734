-- Digits at the front, found in a row of 16 bytes.
use Rattle.std.proofs.Common.{◌≡◌, ℕ, zero, suc, ◌+◌, ◌<◌, ◌≤◌, Bool, true, false, List, [], ◌∷◌, map, length, take, drop, get_or, refl, arith}
use Rattle.std.proofs.lemmas.Simd.{trailing_mask_l, run_in_chunk_fails, run_in_chunk_stops, length-chunk}
use Rattle.std.specs.List.{prefix_len}
use lib.Count.{count_trailing_zeros}
use lib.Lanes.{chunk, mask_l}
use mathlib.Core.Bool.{not}
use Rattle.p21_spec_basics.specs.Digits.{AllDigits, IsDigit, is_digit}
use Rattle.p21_spec_exchange.proofs.Forms.{NoDigitFirst}
use Rattle.p21_scan.proofs.Classes.{digit-decides}
use Rattle.p21_scan.proofs.Rows.{some-short}

pub digits-front : (bytes : List ℕ) (n : ℕ) → ((k : ℕ) → k < n → IsDigit (get_or bytes k 0)) → AllDigits (take n bytes)
digits-front bytes zero h = tt
digits-front [] (suc n) h = tt
digits-front (b ∷ bytes) (suc n) h = (h 0 (omega arith), digits-front bytes n (λ k l. h (suc k) (omega arith)))

pub no_digit-behind : (bytes : List ℕ) (n : ℕ) → (n < length bytes → IsDigit (get_or bytes n 0) → ⊥) → NoDigitFirst (drop n bytes)
no_digit-behind [] zero h = tt
no_digit-behind [] (suc n) h = tt
no_digit-behind (b ∷ bytes) zero h = h (omega arith)
no_digit-behind (b ∷ bytes) (suc n) h = no_digit-behind bytes n (λ l. h (omega arith))

pub passes : (b : ℕ) → not (is_digit b) ≡ false → IsDigit b
passes b h = at (is_digit b) (digit-decides b).0 h
  where
    at : (t : Bool) → (t ≡ true → IsDigit b) → not t ≡ false → IsDigit b
    at true f e = f refl
    at false f e = absurd cc

pub fails : (b : ℕ) → not (is_digit b) ≡ true → IsDigit b → ⊥
fails b h d = let yes = (digit-decides b).1 d in cc

-- the digits before the first other byte of a row
module _ (bytes : List ℕ) (room : 16 ≤ length bytes) (some : 0 < mask_l (map (λ byte. not (is_digit byte)) (take 16 bytes))) where
  abbrev other : ℕ → Bool
  other byte = not (is_digit byte)

  abbrev pub row-count : ℕ
  row-count = count_trailing_zeros 64 (mask_l (map other (take 16 bytes)))

  long : length (chunk 0 16 bytes) ≡ 16
  long = length-chunk 0 16 bytes (omega arith)

  counted : row-count ≡ prefix_len (λ x. not (other x)) (chunk 0 16 bytes)
  counted = trailing_mask_l other 64 (chunk 0 16 bytes) (omega (arith, long)) some

  short : row-count < 16
  short = omega (arith, counted, long, some-short other (chunk 0 16 bytes) some)

  pub row-within : row-count ≤ length bytes
  row-within = let s = short in omega arith

  pub row-digits : AllDigits (take row-count bytes)
  row-digits = digits-front bytes row-count (λ k l. passes _ (run_in_chunk_fails other bytes 0 16 row-count 0 (omega arith) counted k (omega arith) (omega arith)))

  pub row-ends : NoDigitFirst (drop row-count bytes)
  row-ends = no_digit-behind bytes row-count (λ _. fails _ (let zero_first : 0 + row-count ≡ row-count = omega arith in rw zero_first at (run_in_chunk_stops other bytes 0 16 row-count 0 (omega arith) counted short)))
