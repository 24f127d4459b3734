-- Lists that grow.
use Rattle.std.proofs.Common.{◌≡◌, ℕ, zero, suc, List, [], ◌∷◌, ◌++◌, slice_index_or, ap, ◌∙◌, refl}

-- behind a list stands what is read there of it anyway
pub default_behind : {X : Type 0} (xs : List X) (x : X) (i : ℕ) → slice_index_or (xs ++ x ∷ []) i x ≡ slice_index_or xs i x
default_behind [] x zero = refl
default_behind [] x (suc i) = refl
default_behind (y ∷ xs) x zero = refl
default_behind (y ∷ xs) x (suc i) = default_behind xs x i

-- an element that stands behind what a list is
pub pushed : {X : Type 0} (xs same ys : List X) (x : X) → ys ≡ same ++ x ∷ [] → same ≡ xs → ys ≡ xs ++ x ∷ []
pushed xs same ys x behind is = behind ∙ ap (λ (list : List _). list ++ x ∷ []) is
