-- Numbers that rise by equal steps.
use Rattle.std.specs.Prelude.{◌+◌, ℕ, zero, suc, List, [], ◌∷◌, Option, None, Some, eqb, option_map, true, false}

-- so many numbers from a first one on, each by the step above the one in front of it
abbrev pub numbers_by : ℕ → ℕ → ℕ → List ℕ
numbers_by first step zero = []
numbers_by first step (suc count) = first ∷ numbers_by (first + step) step count

-- where a number stands first in a list
abbrev pub place_in : List ℕ → ℕ → Option ℕ
place_in [] number = None
place_in (n ∷ numbers) number = elim (eqb n number)
    [ true ↦ Some 0 | false ↦ option_map (λ (place : ℕ). suc place) (place_in numbers number) ]
