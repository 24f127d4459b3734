-- Two lists side by side, of which one is put in another order.
use Rattle.std.proofs.Common.{◌<◌, ℕ, zero, suc, List, [], ◌∷◌, length, get_or, slice_set, refl, arith}
use Rattle.std.proofs.lemmas.List.Sorted.{IsPermutation-keeps, IsPermutation-refl, IsPermutation-swap, IsPermutation-trans}
use Rattle.std.proofs.lemmas.Slice.Zip.{AllZip-long}
use Rattle.std.specs.List.{AllZip, swap}
use Rattle.std.specs.List.Sorted.{IsPermutation}

module _ {X Y : Type 0} (R : X → Y → Type 0) where
  zip-at : (xs : List X) (ys : List Y) (i : ℕ) (d : X) (e : Y) → AllZip R xs ys → R d e → R (get_or xs i d) (get_or ys i e)
  zip-at [] [] i d e all own = own
  zip-at [] (y ∷ ys) i d e all own = absurd all
  zip-at (x ∷ xs) [] i d e all own = absurd all
  zip-at (x ∷ xs) (y ∷ ys) zero d e all own = all.0
  zip-at (x ∷ xs) (y ∷ ys) (suc i) d e all own = zip-at xs ys i d e all.1 own

  zip-set : (xs : List X) (ys : List Y) (i : ℕ) (x : X) (y : Y) → AllZip R xs ys → R x y → AllZip R (slice_set xs i x) (slice_set ys i y)
  zip-set [] [] i x y all own = tt
  zip-set [] (b ∷ ys) i x y all own = absurd all
  zip-set (a ∷ xs) [] i x y all own = absurd all
  zip-set (a ∷ xs) (b ∷ ys) zero x y all own = (own, all.1)
  zip-set (a ∷ xs) (b ∷ ys) (suc i) x y all own = (all.0, zip-set xs ys i x y all.1 own)

  zip-swap : (xs : List X) (ys : List Y) (i j : ℕ) → AllZip R xs ys → AllZip R (swap xs i j) (swap ys i j)
  zip-swap [] [] i j all = tt
  zip-swap [] (y ∷ ys) i j all = absurd all
  zip-swap (x ∷ xs) [] i j all = absurd all
  zip-swap (x ∷ xs) (y ∷ ys) i j all =
      zip-set (slice_set (x ∷ xs) i (get_or (x ∷ xs) j x)) (slice_set (y ∷ ys) i (get_or (y ∷ ys) j y)) j (get_or (x ∷ xs) i x)
      (get_or (y ∷ ys) i y)
      (zip-set (x ∷ xs) (y ∷ ys) i (get_or (x ∷ xs) j x) (get_or (y ∷ ys) j y) all (zip-at (x ∷ xs) (y ∷ ys) j x y all all.0))
      (zip-at (x ∷ xs) (y ∷ ys) i x y all all.0)

  abbrev Along : List Y → List X → Type 0
  Along ys xs = (zs : List Y) × IsPermutation ys zs × AllZip R xs zs

  -- the other is put in the same order
  pub zip-permuted : (xs sorted : List X) (ys : List Y) → AllZip R xs ys → IsPermutation xs sorted
      → (zs : List Y) × IsPermutation ys zs × AllZip R sorted zs
  zip-permuted xs sorted ys all are = IsPermutation-keeps xs (Along ys) (ys, IsPermutation-refl ys, all) step sorted are
    where
      step : (l : List X) (i j : ℕ) → i < length l → j < length l → Along ys l → Along ys (swap l i j)
      step l i j first second (zs, same, both) =
          let size = AllZip-long R l zs both in (
            swap zs i j,
            IsPermutation-trans ys zs (swap zs i j) same
                (IsPermutation-swap zs (swap zs i j) i j (omega (arith, first, size)) (omega (arith, second, size)) refl),
            zip-swap l zs i j
                both,
          )
