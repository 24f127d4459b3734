-- Where numbers stand in a list.
use Rattle.std.specs.Prelude.{◌≡◌, ◌<◌, ℕ, List, Option, Some, None, slice_get, Contains}
use Rattle.std.specs.BTreeMap.{BTreeMap, get}
use Rattle.std.specs.Ordering.{nat_cmp}

-- the first place of a number, if it stands anywhere
abbrev pub FindsFirst : List ℕ → ℕ → Option ℕ → Type 0
FindsFirst es e None = ¬ Contains es e
FindsFirst es e (Some at) = (slice_get es at ≡ Some e) × ((k : ℕ) → k < at → ¬ (slice_get es k ≡ Some e))

-- of each number
abbrev pub AreFirstPositions : List ℕ → (ℕ → Option ℕ) → Type 0
AreFirstPositions es find = (e : ℕ) → FindsFirst es e (find e)

-- these are the first places, where they are kept
abbrev pub HasPositions : List ℕ → Option (BTreeMap ℕ ℕ) → Type 0
HasPositions es None = Unit {0}
HasPositions es (Some places) = AreFirstPositions es (get nat_cmp places)
