-- The numbers of parameters, and when two of them are within a tolerance.
use Rattle.std.specs.Prelude.{◌⊎◌, Option, None, Some}
use Rattle.p21_spec_exchange.specs.Number.{Ratio, SameRatio, ratio_of, whole_ratio}
use Rattle.p21_spec_exchange.specs.Parameter.{Param, real, whole}
use Rattle.p21_model_values.specs.declared.digits.Digits.{Digits}
use Rattle.p21_tolerance.specs.Within.{AreWithin, number_of, share_of}

-- the number that a whole number or a real is
abbrev pub number_in : Param → Option Ratio
number_in (whole z) = Some (whole_ratio z)
number_in (real d) = Some (ratio_of d)
number_in other = None

-- both are numbers, and differ by no more than the tolerance
abbrev pub AreNumbersWithin : Option Ratio → Option Ratio → Ratio → Type 0
AreNumbersWithin (Some first) (Some second) tolerance = AreWithin first second tolerance
AreNumbersWithin first second tolerance = ⊥

-- both are numbers, and differ by no more than one of them times the tolerance, so than the greater one
abbrev pub AreNumbersWithinShare : Option Ratio → Option Ratio → Ratio → Type 0
AreNumbersWithinShare (Some first) (Some second) tolerance =
    AreWithin first second (share_of tolerance first) ⊎ AreWithin first second (share_of tolerance second)
AreNumbersWithinShare first second tolerance = ⊥

-- these are the digits of the number, if there is one
abbrev pub AreDigitsOf : Option Digits → Option Ratio → Type 0
AreDigitsOf (Some digits) (Some ratio) = SameRatio (number_of digits) ratio
AreDigitsOf None None = Unit {0}
AreDigitsOf digits ratio = ⊥
