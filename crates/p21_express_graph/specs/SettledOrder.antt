-- Numbers that lead to numbers: each of them has a list of those that come next.
use Rattle.std.specs.Prelude.{◌≡◌, ℕ, ◌<◌, List, [], Some, None, length, slice_get, take, map, Contains}
use Rattle.std.specs.Prelude as std
use Rattle.std.specs.declared.alloc.Global.{Global}

-- the numbers that come next
abbrev pub nexts_of : List (List ℕ) → ℕ → List ℕ
nexts_of lists x = elim (slice_get lists x) [ Some nexts ↦ nexts | None ↦ [] ]

-- y comes next to x
abbrev pub IsNext : List (List ℕ) → ℕ → ℕ → Type 0
IsNext lists x y = Contains (nexts_of lists x) y

-- what comes next has a list too
abbrev pub AreWithin : List (List ℕ) → Type 0
AreWithin lists = (x y : ℕ) → IsNext lists x y → y < length lists

-- all numbers are listed, each behind those that come next to it
pub record IsSettledOrder (lists : List (List ℕ)) (listed : List ℕ) : Type 0 where
  pub all : (x : ℕ) → x < length lists → Contains listed x
  pub within : (x : ℕ) → Contains listed x → x < length lists
  pub behind : (k x y : ℕ) → slice_get listed k ≡ Some x → IsNext lists x y → Contains (take k listed) y

-- the lists of vectors
abbrev pub lists_of : List (std.Vec ℕ Global) → List (List ℕ)
lists_of nexts = map (λ x. x.items) nexts
