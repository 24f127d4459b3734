-- The bytes of a piece.
use Rattle.std.proofs.Common.{ℕ, suc, List, [], ◌∷◌, slice_index_or, Fits, w8, arith}
use Rattle.std.specs.List.{AllByRecursion as Each}
use Rattle.p21_spec_basics.specs.Digits.{IsByte}

-- the items of a buffer are bytes
pub each-byte : (buffer : List ℕ) → ((i : ℕ) → Fits w8 (slice_index_or buffer i 0)) → Each IsByte buffer
each-byte [] fits = tt
each-byte (byte ∷ bytes) fits = ((let f = (fits 0).fits in omega arith), each-byte bytes (λ i. fits (suc i)))
