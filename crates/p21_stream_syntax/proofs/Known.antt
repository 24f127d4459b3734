-- Lists with items, and without.
use Rattle.std.proofs.Common.{◌≡◌, ◌≢◌, ℕ, List, [], ◌∷◌, length, refl}

pub no-items : (l : List ℕ) → length l ≡ 0 → l ≡ []
no-items [] none = refl
no-items (x ∷ xs) none = cc

pub some-items : (l : List ℕ) → (length l ≡ 0 → ⊥) → l ≢ []
some-items [] some is = some refl
some-items (x ∷ xs) some is = cc
