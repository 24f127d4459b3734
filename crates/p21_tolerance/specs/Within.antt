-- When two numbers differ by no more than a tolerance.
use Rattle.std.specs.Prelude.{◌*◌, pos, nat_abs, ◌+ℤ◌, ◌*ℤ◌, ◌≤ℤ◌}
use borrow.Author.Differences.{up, down}
use Rattle.p21_spec_exchange.specs.Number.{Ratio, scaled}
use Rattle.p21_values.specs.RealComponents.{digits_ratio}
use Rattle.p21_model_values.specs.declared.digits.Digits.{Digits}
use Rattle.p21_tolerance.specs.declared.tolerance.Tolerance.{Tolerance}

-- no number is greater than the other one and the tolerance together: the three as numerators over the product of their denominators
abbrev pub AreWithin : Ratio → Ratio → Ratio → Type 0
AreWithin r s t =
    let first = r.numerator *ℤ pos (s.denominator * t.denominator) in
    let second = s.numerator *ℤ pos (r.denominator * t.denominator) in
    let tolerance = t.numerator *ℤ pos (r.denominator * s.denominator) in
    (first ≤ℤ (second +ℤ tolerance)) × (second ≤ℤ (first +ℤ tolerance))

-- the number of digits on both sides of a point, with a sign and an exponent
abbrev pub number_of : Digits → Ratio
number_of d = digits_ratio d.negative d.whole.now d.fraction.now d.exponent

-- so many units of a power of ten
abbrev pub tolerance_of : Tolerance → Ratio
tolerance_of t = scaled (pos t.units) (up t.power) (down t.power)

-- a fraction of a number, whatever its sign
abbrev pub share_of : Ratio → Ratio → Ratio
share_of part r = record { numerator = part.numerator *ℤ pos (nat_abs r.numerator); denominator = part.denominator * r.denominator }
