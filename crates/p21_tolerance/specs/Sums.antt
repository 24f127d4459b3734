-- What the digits that are left of a sum stand for.
use Rattle.std.specs.Prelude.{ℕ, ◌+◌, ◌*◌, ◌^◌, ◌<◌}
use Rattle.p21_tolerance.specs.Places.{AreBelow, IsReadable, value_of}
use Rattle.p21_tolerance.specs.declared.sums.Sum.{Sum}

abbrev pub sum_of : Sum → ℕ
sum_of s = value_of s.first + s.times * value_of s.second

-- both are readable
pub record AreReadable (s : Sum) : Type 0 where
  pub first : IsReadable s.first
  pub second : IsReadable s.second
  pub few_times : s.times < 2 ^ 64

-- the digits that are left stand in so many places
abbrev pub IsSumBelow : Sum → ℕ → Type 0
IsSumBelow s place = AreBelow s.first place × AreBelow s.second place
