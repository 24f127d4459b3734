-- Two lists place by place.
use Rattle.std.proofs.Common.{◌≡◌, ℕ, zero, suc, List, [], ◌∷◌, ◌++◌, slice_get, Some, refl, subst}
use Rattle.std.proofs.lemmas.Option.{none-some, same_Some}
use Rattle.std.specs.List.{AllZip}

-- with one more behind each
pub AllZip-more : {X Y : Type 0} (R : X → Y → Type 0) (xs : List X) (ys : List Y) (x : X) (y : Y) → AllZip R xs ys → R x y
    → AllZip R (xs ++ x ∷ []) (ys ++ y ∷ [])
AllZip-more R [] [] x y all is = (is, tt)
AllZip-more R [] (b ∷ ys) x y all is = absurd all
AllZip-more R (a ∷ xs) [] x y all is = absurd all
AllZip-more R (a ∷ xs) (b ∷ ys) x y all is = (all.0, AllZip-more R xs ys x y all.1 is)

-- what stands at a place of the first has its own at that place of the second
pub AllZip-beside_at : {X Y : Type 0} (R : X → Y → Type 0) (xs : List X) (ys : List Y) (k : ℕ) (x : X) → AllZip R xs ys
    → slice_get xs k ≡ Some x → (y : Y) × (slice_get ys k ≡ Some y) × R x y
AllZip-beside_at R [] ys k x all at = absurd (none-some x at)
AllZip-beside_at R (a ∷ xs) [] k x all at = absurd all
AllZip-beside_at R (a ∷ xs) (b ∷ ys) zero x all at = (b, refl, subst (λ z. R z b) (same_Some a x at) all.0)
AllZip-beside_at R (a ∷ xs) (b ∷ ys) (suc k) x all at = AllZip-beside_at R xs ys k x all.1 at
