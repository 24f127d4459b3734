use Rattle.std.proofs.Common.{◌≡◌, ◌-◌, suc, arith, ◌∙◌}
use Rattle.p21_c.proofs.Modelled.{deeper}
use Rattle.p21_express_graph.specs.Meaning.{type_use}
use Rattle.p21_c.proofs.model_types.plain_type.Goals as goal

pub loop-left-preserved : goal.loop-left-preserved
loop-left-preserved c =
    let down : c.loop-left.left ≡ suc (c.loop-left.left - 1) = omega (arith, c.loop-left-test.true) in
    deeper c.loop-left.left (c.loop-left.left - 1) c.loop-left.optional c.in-Some.leaves_out (type_use c.loop-left.found.now)
    (type_use c.in-Some.inside.now) down c.in-Some.ensures ∙ c.loop-left.invariant
