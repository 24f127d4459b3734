use Rattle.std.specs.Prelude.{◌≡◌, true, false}
use Rattle.std.proofs.Common.{arith}
use Rattle.p21_express_graph.proofs.Lookups.{unnumbered}
use Rattle.p21_mapping.proofs.members.has.Goals as goal

pub returns : goal.returns
returns c = (
  λ no. let t : false ≡ true = no in cc,
  λ among. absurd
      (unnumbered (λ e. e.0) record { 0 = 0 } c.args.entities.now c.args.entity.0
      (λ k below is. c.loop-other.invariant k (omega (arith, below, c.loop-other-test.false)) is) among),
)
