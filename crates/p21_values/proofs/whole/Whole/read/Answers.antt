use Rattle.std.proofs.Common.{refl, ap, length, arith}
use Rattle.std.proofs.lemmas.Bool.Decides.{nat_tests}
use Rattle.p21_scan.proofs.Numbers.{no_whole, whole_integer}
use Rattle.p21_values.proofs.whole.Whole.read.Goals as goal

pub returns-in_default : goal.returns-in_default
returns-in_default c = (refl, λ value s. no_whole _ value c.in_default.ensures.none s)

pub returns-then-not-is_empty : goal.returns-then-not-is_empty
returns-then-not-is_empty c = (
  refl,
  λ value s. let none = ap length (whole_integer _ _ _ _ value c.in-Some.ensures.some s) in grind (arith, nat_tests),
)
