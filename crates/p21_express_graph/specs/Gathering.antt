-- Numbers that are gathered, each once.
use Rattle.std.specs.Prelude.{◌≡◌, ℕ, ◌<◌, List, [], ◌∷◌, ◌++◌, Some, length, slice_get, slice_index_or, nat_eq, if◌then◌else◌}
use Rattle.std.specs.List.{list_any}

-- numbers below a count
pub record Numbers : Type 0 where
  pub count : ℕ
  pub numbers : List ℕ

-- a number stands last, unless it is there
abbrev pub add_first : List ℕ → ℕ → List ℕ
add_first xs y = if list_any (nat_eq y) xs then xs else xs ++ y ∷ []

-- each number in turn
abbrev pub add_firsts : List ℕ → List ℕ → List ℕ
add_firsts xs [] = xs
add_firsts xs (y ∷ ys) = add_firsts (add_first xs y) ys

-- each number has its place
abbrev pub HaveTheirPositions : List ℕ → List ℕ → Type 0
HaveTheirPositions places numbers = (k x : ℕ) → slice_get numbers k ≡ Some x → (slice_index_or places x 0 ≡ k) × (x < length places)
