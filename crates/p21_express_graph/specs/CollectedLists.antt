-- What numbers that lead to numbers come to: what they have of their own, and what those that come next come to.
use Rattle.std.specs.Prelude.{◌≡◌, ◌↔◌, ℕ, ◌<◌, List, length, Contains}
use Rattle.std.specs.List.Sorted.{IsStrictlyIncreasing}
use Rattle.p21_express_graph.specs.SettledOrder.{nexts_of, IsNext}

-- x comes to y
pub data Collects (own nexts : List (List ℕ)) : ℕ → ℕ → Type 0 where
  of_own : (x y : ℕ) → Contains (nexts_of own x) y → Collects own nexts x y
  of_next : (x next y : ℕ) → IsNext nexts x next → Collects own nexts next y → Collects own nexts x y

-- the same numbers, in rising order
pub record IsRisingOf (numbers list : List ℕ) : Type 0 where
  pub same : (y : ℕ) → Contains list y ↔ Contains numbers y
  pub rising : IsStrictlyIncreasing list

-- the table has all that each number comes to, in rising order
pub record AreCollected (own nexts lists : List (List ℕ)) : Type 0 where
  pub size : length lists ≡ length nexts
  pub each : (x : ℕ) → x < length nexts → (y : ℕ) → Contains (nexts_of lists x) y ↔ Collects own nexts x y
  pub rising : (x : ℕ) → IsStrictlyIncreasing (nexts_of lists x)

-- each list of the second table has the numbers of that of the first, in rising order
pub record AreRisingOf (tables lists : List (List ℕ)) : Type 0 where
  pub size : length lists ≡ length tables
  pub each : (x : ℕ) → IsRisingOf (nexts_of tables x) (nexts_of lists x)
