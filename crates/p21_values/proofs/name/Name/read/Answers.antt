use Rattle.std.proofs.Common.{ap, length, arith}
use Rattle.std.proofs.lemmas.Bool.Decides.{nat_tests}
use Rattle.p21_scan.proofs.NamesAt.{name-all, name-once, name-whole}
use Rattle.p21_values.proofs.name.Name.read.Goals as goal

pub returns-in_default : goal.returns-in_default
returns-in_default c = λ form. c.in_default.ensures.none _ _ (name-whole _ form)

pub returns-then-not-is_empty : goal.returns-then-not-is_empty
returns-then-not-is_empty c = λ form. let none = ap length (name-once _ _ _ _ _ c.in-Some.ensures.some (name-whole _ form)).1 in grind (arith, nat_tests)

pub returns-in-Some-name_number : goal.returns-in-Some-name_number
returns-in-Some-name_number c =
    let at = c.in-Some.ensures.some in
    record {
      form = record { digits = c.in-Some.digits.now; bytes_are = name-all _ _ _ at (grind (arith, nat_tests)); some_digits = at.some_digits; are_digits = at.are_digits };
      value_is = c.in-Some-name_number.ensures.some;
      in_range = omega arith;
    }

pub returns-in-None : goal.returns-in-None
returns-in-None c =
    let at = c.in-Some.ensures.some in (
      record { digits = c.in-Some.digits.now; bytes_are = name-all _ _ _ at (grind (arith, nat_tests)); some_digits = at.some_digits; are_digits = at.are_digits },
      c.in-None.ensures.none,
    )
