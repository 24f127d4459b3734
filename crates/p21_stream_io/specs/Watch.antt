-- A reader or a writer with the counts of its calls.
use Rattle.std.specs.Prelude.{ℕ, ◌+◌, ◌-◌, ◌^◌, zero, suc, min, List, [], ◌∷◌, Result, Ok, Err}

-- the reader or writer; the calls that moved bytes; the calls that failed
pub record Watch (T : Type 0) : Type 0 where
  pub inner : T
  pub moved : ℕ
  pub failures : ℕ

-- one call more; a count that has reached `u64::MAX` stays there
abbrev pub one_call_more : ℕ → ℕ
one_call_more count = min (count + 1) (2 ^ 64 - 1)

-- a call that answers a number of bytes other than 0 moved bytes
abbrev pub moved_after : {E : Type 0} → ℕ → Result ℕ E → ℕ
moved_after count (Ok zero) = count
moved_after count (Ok (suc n)) = one_call_more count
moved_after count (Err e) = count

-- a read fails by its error
abbrev pub failures_after_read : {E : Type 0} → ℕ → Result ℕ E → ℕ
failures_after_read count (Ok n) = count
failures_after_read count (Err e) = one_call_more count

-- a write fails by its error, or where it takes none of some bytes
abbrev pub failures_after_write : {E : Type 0} → ℕ → List ℕ → Result ℕ E → ℕ
failures_after_write count bytes (Err e) = one_call_more count
failures_after_write count [] (Ok n) = count
failures_after_write count (first ∷ rest) (Ok zero) = one_call_more count
failures_after_write count (first ∷ rest) (Ok (suc n)) = count
