use Rattle.std.proofs.Common.{ap, length, arith}
use Rattle.std.proofs.lemmas.Bool.Decides.{nat_tests}
use Rattle.p21_scan.proofs.Binaries.{no_binary, whole_binary}
use Rattle.p21_values.proofs.BitsLemmas.{spells_alone}
use Rattle.p21_values.proofs.bits.is_binary.Goals as goal

pub returns-in-Some : goal.returns-in-Some
returns-in-Some c = (
  λ yes. spells_alone _ _ _ _ c.in-Some.ensures.some (grind (arith, nat_tests)),
  λ s. let none_left = ap length (whole_binary _ _ _ _ _ c.in-Some.ensures.some s) in grind (arith, nat_tests),
)

pub returns-in-None : goal.returns-in-None
returns-in-None c = (λ yes. cc, λ s. absurd (no_binary _ _ c.in-None.ensures.none s))
