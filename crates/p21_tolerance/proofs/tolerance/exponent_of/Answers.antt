use Rattle.std.proofs.Common.{◌≡◌, ◌⊎◌, inl, inr}
use Rattle.p21_tolerance.proofs.Spellings.{power-none, power-some, powers-refused}
use Rattle.p21_tolerance.proofs.tolerance.exponent_of.Goals as goal
use Rattle.p21_tolerance.proofs.tolerance.exponent_of.Goals.{then-mark-eq69-via-then-mark-eq69}
use Rattle.p21_tolerance.proofs.tolerance.exponent_of.Goals.{then-mark-eq69-via-else-mark-eq69+then-mark-eq101}

pub returns-in_default-clause-some : goal.returns-in_default-clause-some
returns-in_default-clause-some c = power-none c.args.bytes.now c.in_default.ensures.cases

pub returns-then-mark-eq69-clause-some : goal.returns-then-mark-eq69-clause-some
returns-then-mark-eq69-clause-some c =
    let mark : (c.in-Some.mark.now ≡ 69) ⊎ (c.in-Some.mark.now ≡ 101) = elim c.then-mark-eq69.branch [
      | then-mark-eq69-via-then-mark-eq69 w ↦ inl w.if-mark-eq69.true
      | then-mark-eq69-via-else-mark-eq69+then-mark-eq101 w ↦ inr w.if-mark-eq101.true
    ] in
    power-some c.args.bytes.now c.in-Some.written.now c.in-Some.mark.now c.integer_of.result c.in-Some.ensures.cases.0 mark
    c.integer_of.ensures.some c.integer_of.ensures.small

pub returns-then-mark-eq69-clause-none : goal.returns-then-mark-eq69-clause-none
returns-then-mark-eq69-clause-none c =
    powers-refused c.args.bytes.now c.in-Some.written.now c.in-Some.mark.now c.integer_of.result c.in-Some.ensures.cases.0
    c.integer_of.ensures.none
