use Rattle.std.proofs.Math.Nat.{div-div-eq-div-mul}
use Rattle.p21_values.proofs.text.long_directive.Goals as goal

pub returns : goal.returns
returns c = simp div-div-eq-div-mul (cc)
