-- Pairs of lists that grow by one.
use Rattle.std.specs.Prelude.{◌≡◌, ◌⊎◌, ◌+◌, ◌<◌, ℕ, zero, suc, List, [], ◌∷◌, ◌++◌, Some, length, map, take, slice_get, Contains, refl}
use Rattle.std.specs.List.{AllZip}
use Rattle.std.proofs.Common.{arith, ap, sym, ◌∙◌, subst, inl, inr, get_or}
use Rattle.std.proofs.lemmas.List.{map-append, take_more}
use Rattle.p21_spec_basics.proofs.Members.{Contains-first, Contains-later, AllZip-turned}

-- what stands in a list with one more behind it
pub snoc-get : {X : Type 0} (xs : List X) (z : X) (k : ℕ) (x : X) → slice_get (xs ++ z ∷ []) k ≡ Some x → (slice_get xs k ≡ Some x) ⊎ ((k ≡ length xs) × (x ≡ z))
snoc-get [] z zero x at = let same : z ≡ x = cc in inr (refl, sym same)
snoc-get [] z (suc k) x at = cc
snoc-get (y ∷ xs) z zero x at = inl at
snoc-get (y ∷ xs) z (suc k) x at = elim (snoc-get xs z k x at) [ inl h ↦ inl h | inr h ↦ inr (ap suc h.0, h.1) ]

-- one pair more
pub AllZip-push : {X Y : Type 0} (R : X → Y → Type 0) (xs : List X) (ys : List Y) (x : X) (y : Y) → AllZip R xs ys → R x y → AllZip R (xs ++ x ∷ []) (ys ++ y ∷ [])
AllZip-push R [] [] x y all one = (one, tt)
AllZip-push R [] (z ∷ ys) x y all one = absurd all
AllZip-push R (z ∷ xs) [] x y all one = absurd all
AllZip-push R (z ∷ xs) (w ∷ ys) x y all one = (all.0, AllZip-push R xs ys x y all.1 one)

-- the pair at a place
pub AllZip-at : {X Y : Type 0} (R : X → Y → Type 0) (xs : List X) (ys : List Y) (k : ℕ) (d : X) (e : Y) → AllZip R xs ys → k < length xs → R (get_or xs k d) (get_or ys k e)
AllZip-at R [] ys k d e all below = let none : ⊥ = omega (arith, below) in absurd none
AllZip-at R (x ∷ xs) [] k d e all below = absurd all
AllZip-at R (x ∷ xs) (y ∷ ys) zero d e all below = all.0
AllZip-at R (x ∷ xs) (y ∷ ys) (suc k) d e all below = AllZip-at R xs ys k d e all.1 (omega (arith, below))

-- two images of one list
pub AllZip-mapped : {X Y Z : Type 0} (R : Y → Z → Type 0) (f : X → Y) (g : X → Z) (xs : List X) → ((x : X) → Contains xs x → R (f x) (g x)) → AllZip R (map f xs) (map g xs)
AllZip-mapped R f g [] each = tt
AllZip-mapped R f g (x ∷ xs) each = (each x (Contains-first x xs), AllZip-mapped R f g xs (λ y among. each y (Contains-later x xs y among)))

-- one element more of a list, beside what was pushed
pub AllZip-more : {X Y Z W : Type 0} (R : Z → W → Type 0) (f : X → Z) (g : Y → W) (xs : List X) (k : ℕ) (d : X) (ys after : List Y) (y : Y) → k < length xs → after ≡ ys ++ y ∷ []
    → AllZip R (map f (take k xs)) (map g ys) → R (f (get_or xs k d)) (g y) → AllZip R (map f (take (k + 1) xs)) (map g after)
AllZip-more {X} {Y} {Z} {W} R f g xs k d ys after y below pushed all one =
    let x : X = get_or xs k d in
    let left : map f (take (k + 1) xs) ≡ map f (take k xs) ++ f x ∷ [] = ap (map f) (take_more xs k d below) ∙ map-append f (take k xs) (x ∷ []) in
    let right : map g after ≡ map g ys ++ g y ∷ [] = ap (map g) pushed ∙ map-append g ys (y ∷ []) in
    let P : List Z → Type 0 = λ zs. AllZip R zs (map g after) in
    let Q : List W → Type 0 = λ ws. AllZip R (map f (take k xs) ++ f x ∷ []) ws in
    subst P (sym left) (subst Q (sym right) (AllZip-push R (map f (take k xs)) (map g ys) (f x) (g y) all one))

-- one element more of the second list
pub AllZip-more_second : {X Y Z W : Type 0} (R : W → Z → Type 0) (f : X → Z) (g : Y → W) (xs : List X) (k : ℕ) (d : X) (ys after : List Y) (y : Y) → k < length xs → after ≡ ys ++ y ∷ []
    → AllZip R (map g ys) (map f (take k xs)) → R (g y) (f (get_or xs k d)) → AllZip R (map g after) (map f (take (k + 1) xs))
AllZip-more_second R f g xs k d ys after y below pushed all one =
    AllZip-turned (λ z w. R w z) (map f (take (k + 1) xs)) (map g after) (AllZip-more (λ z w. R w z) f g xs k d ys after y below pushed (AllZip-turned R (map g ys) (map f (take k xs)) all) one)
