use Rattle.std.proofs.Common.{refl, ap, length, arith}
use Rattle.std.proofs.lemmas.Bool.Decides.{nat_tests}
use Rattle.p21_spec_exchange.specs.Token.{keyword}
use Rattle.p21_scan.proofs.Words.{keyword-once, token-whole}
use Rattle.p21_values.proofs.word.Word.read.Goals as goal

pub returns-in_default : goal.returns-in_default
returns-in_default c = (refl, λ word s. c.in_default.ensures.none word _ (token-whole _ (keyword word) s.0 (refl, s.1)))

pub returns-then-not-is_empty : goal.returns-then-not-is_empty
returns-then-not-is_empty c = (
  refl,
  λ word s. let none = ap length (keyword-once _ _ word _ _ c.in-Some.ensures.some (token-whole _ (keyword word) s.0 (refl, s.1))).1 in grind (arith, nat_tests),
)
