-- Characters that are added to a text: bytes, as those of ISO 8859-1, or those of a text in UTF-8.
use lib.Utf8.{scalar, scalars}
use Rattle.std.proofs.Common.{◌≡◌, ◌&&◌, Bool, true, refl, ℕ, suc, false, List, [], ◌∷◌, ◌++◌, Result, Ok, Err, slice_index_or, arith, Fits, w8}
use Rattle.std.proofs.Math.Utf8.{low_scalar}
use Rattle.std.specs.Char.{IsScalar}
use Rattle.std.specs.List.{AllByRecursion as Each}
use Rattle.std.specs.Result.{OnOk, is_err}

pub latin1-scalars : (characters bytes : List ℕ) → Each IsScalar characters → ((i : ℕ) → Fits w8 (slice_index_or bytes i 0)) → Each IsScalar (characters ++ bytes)
latin1-scalars [] [] h fits = tt
latin1-scalars [] (b ∷ bytes) h fits = (low_scalar b (let f = (fits 0).fits in omega arith), latin1-scalars [] bytes tt (λ i. fits (suc i)))
latin1-scalars (c ∷ characters) bytes h fits = (h.0, latin1-scalars characters bytes h.1 fits)

pub on_ok : {T E Q : Type 0} (r : Result T E) → OnOk r Q → is_err r ≡ false → Q
on_ok (Ok x) h e = h
on_ok (Err x) h e = absurd cc

each-scalar : (cs : List ℕ) → scalars cs ≡ true → Each IsScalar cs
each-scalar [] h = tt
each-scalar (c ∷ cs) h = let parts = both-true (scalar c) (scalars cs) h in (parts.0, each-scalar cs parts.1)
  where
    both-true : (a b : Bool) → (a && b) ≡ true → (a ≡ true) × (b ≡ true)
    both-true true b h = (refl, h)
    both-true false b h = absurd cc

pub scalars-added : (characters cs : List ℕ) → Each IsScalar characters → scalars cs ≡ true → Each IsScalar (characters ++ cs)
scalars-added [] cs h s = each-scalar cs s
scalars-added (c ∷ characters) cs h s = (h.0, scalars-added characters cs h.1 s)
