-- New names by a map from the old ones.
use Rattle.std.specs.BTreeMap.{BTreeMap, get}
use Rattle.std.specs.Ordering.{nat_cmp}
use Rattle.std.specs.Prelude.{◌≡◌, ◌<◌, ℕ, List, length, slice_index_or, Some, None}
use Rattle.p21_spec_basics.proofs.Shuffles.{NoneTwice}

-- the new name, or 0 where the map has none
abbrev pub new_name : BTreeMap ℕ ℕ → ℕ → ℕ
new_name names n = elim (get nat_cmp names n) [ Some new ↦ new | None ↦ 0 ]

-- of names that differ each has the new name at its position
abbrev pub NamesGet : BTreeMap ℕ ℕ → List ℕ → List ℕ → Type 0
NamesGet found names news =
    NoneTwice names → (k : ℕ) → k < length names → new_name found (slice_index_or names k 0) ≡ slice_index_or news k 0
