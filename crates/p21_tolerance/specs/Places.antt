-- What the digits that are left of a number stand for.
use Rattle.std.specs.Prelude.{ℕ, ◌+◌, ◌*◌, ◌^◌, ◌<◌, ◌≤◌, List, ◌++◌, length}
use Rattle.std.specs.List.{AllByRecursion as Each}
use Rattle.p21_spec_basics.specs.Digits.{IsByte, number}
use Rattle.p21_tolerance.specs.declared.places.Places.{Places}

-- those before the point and those behind it
abbrev pub digits_left : Places → List ℕ
digits_left p = p.whole.now ++ p.fraction.now

-- their number, in units of the lowest place
abbrev pub value_of : Places → ℕ
value_of p = number (digits_left p) * 10 ^ p.behind

-- bytes, with not too many places behind them
pub record IsReadable (p : Places) : Type 0 where
  pub bytes : Each IsByte (digits_left p)
  pub short : p.behind < 2 ^ 126

-- the digits that are left stand in so many places
abbrev pub AreBelow : Places → ℕ → Type 0
AreBelow p place = 0 < length (digits_left p) → p.behind + length (digits_left p) ≤ place
