-- The names that the instances of the first file really have.
use Rattle.std.specs.BTreeMap.{BTreeMap, get}
use Rattle.std.specs.Ordering.{nat_cmp}
use Rattle.std.specs.Prelude.{ℕ, Option, Some, None}
use denote.Ref.{Bor}

-- the names with which it stands
abbrev pub as_they_stand : ℕ → ℕ
as_they_stand n = n

-- those that a map has for these; where it has none, the name as it stands
abbrev pub by_map : BTreeMap ℕ ℕ → ℕ → ℕ
by_map names n = elim (get nat_cmp names n) [ Some real ↦ real | None ↦ n ]

-- the name that an instance of the first file really has, by the one with which it stands
abbrev pub real_name : Option (Bor (BTreeMap ℕ ℕ)) → ℕ → ℕ
real_name None = as_they_stand
real_name (Some names) = by_map names.now
