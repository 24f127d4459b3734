-- Lists side by side.
use Rattle.std.proofs.Common.{◌≡◌, ◌<◌, ℕ, zero, suc, List, [], ◌∷◌, ◌++◌, length, Option, Some, refl, sym, ap, ◌∙◌, arith}
use Rattle.std.proofs.lemmas.List.{length-append}
use Rattle.std.specs.List.{slice_get, zip}
use Rattle.std.specs.Option.{option_map}

pub length-side : {A B : Type 0} (xs : List A) (ys : List B) → length xs ≡ length ys → length (zip xs ys) ≡ length xs
length-side [] ys e = refl
length-side (x ∷ xs) [] e = absurd (omega (arith, e))
length-side (x ∷ xs) (y ∷ ys) e = ap (λ (n : ℕ). suc n) (length-side xs ys (omega (arith, e)))

pub side-more : {A B : Type 0} (xs : List A) (ys : List B) (x : A) (y : B) → length xs ≡ length ys
    → zip (xs ++ x ∷ []) (ys ++ y ∷ []) ≡ zip xs ys ++ (x, y) ∷ []
side-more [] [] x y e = refl
side-more [] (b ∷ ys) x y e = absurd (omega (arith, e))
side-more (a ∷ xs) [] x y e = absurd (omega (arith, e))
side-more {A} {B} (a ∷ xs) (b ∷ ys) x y e = ap (λ (l : List (A × B)). (a, b) ∷ l) (side-more xs ys x y (omega (arith, e)))

pub side-get : {A B : Type 0} (xs : List A) (ys : List B) (i : ℕ) (x : A) (y : B) → slice_get xs i ≡ Some x → slice_get ys i ≡ Some y
    → slice_get (zip xs ys) i ≡ Some (x, y)
side-get [] ys i x y f e = cc
side-get (a ∷ xs) [] i x y f e = cc
side-get {A} {B} (a ∷ xs) (b ∷ ys) zero x y f e = ap (λ (z : Option B). option_map (λ (v : B). (a, v)) z) e
    ∙ ap (λ (z : Option A). option_map (λ (v : A). (v, y)) z) f
side-get (a ∷ xs) (b ∷ ys) (suc i) x y f e = side-get xs ys i x y f e

-- ---- two lists and what they are side by side

module _ {A B : Type 0} (xs : List A) (ys : List B) (both : List (A × B)) (is : zip xs ys ≡ both) where
  pub got : (i : ℕ) (x : A) (y : B) → slice_get xs i ≡ Some x → slice_get ys i ≡ Some y → slice_get both i ≡ Some (x, y)
  got i x y f e = ap (λ (l : List (A × B)). slice_get l i) (sym is) ∙ side-get xs ys i x y f e

  module _ (same : length xs ≡ length ys) where
    pub within : (i : ℕ) → i < length both → i < length xs
    within i below = let size = length-side xs ys same in let whole = ap length is in omega (arith, below, size, whole)

    pub within_other : (i : ℕ) → i < length both → i < length ys
    within_other i below = let before = within i below in omega (arith, before, same)

    pub one_more : (new_xs : List A) (new_ys : List B) (x : A) (y : B) → new_xs ≡ xs ++ x ∷ [] → new_ys ≡ ys ++ y ∷ []
        → zip new_xs new_ys ≡ both ++ (x, y) ∷ []
    one_more new_xs new_ys x y xs_are ys_are = rw (xs_are, ys_are)
        (side-more xs ys x y same ∙ ap (λ (l : List (A × B)). l ++ (x, y) ∷ []) is)

    pub also_same : (new_xs : List A) (new_ys : List B) (x : A) (y : B) → new_xs ≡ xs ++ x ∷ [] → new_ys ≡ ys ++ y ∷ []
        → length new_xs ≡ length new_ys
    also_same new_xs new_ys x y xs_are ys_are = rw (xs_are, ys_are) (simp length-append (omega (arith, same)))
