-- What holds of each element of a list and its number.
use Rattle.std.specs.Prelude.{◌≡◌, ℕ, List, [], ◌∷◌, ◌++◌, Some, length, slice_get}
use Rattle.std.proofs.Common.{sym, subst, inl, inr}
use Rattle.p21_express_graph.proofs.Pairs.{snoc-get}

-- one element more
pub each-more : {X : Type 0} (P : ℕ → X → Type 0) (xs : List X) (x : X) → ((k : ℕ) (y : X) → slice_get xs k ≡ Some y → P k y)
    → P (length xs) x
    → (k : ℕ) (y : X) → slice_get (xs ++ x ∷ []) k ≡ Some y → P k y
each-more {X} P xs x each one k y at = elim (snoc-get xs x k y at) [
  | inl h ↦ each k y h
  | inr h ↦
      let Q : ℕ → Type 0 = λ n. P n y in
      subst Q (sym h.0) (subst (P (length xs)) (sym h.1) one)
]
