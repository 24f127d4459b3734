use Rattle.p21_stream_syntax.proofs.Adding.{adds-none, adds-param, all-params}
use Rattle.p21_stream_syntax.proofs.references.+add.Goals as goal

pub add_listed-loop-i-init : goal.add_listed-loop-i-init
add_listed-loop-i-init t c = adds-none _ _

pub add_listed-loop-i-preserved : goal.add_listed-loop-i-preserved
add_listed-loop-i-preserved t c = adds-param _ _ _ _ _ c.args.params.now c.loop-i.i c.index-params-i.result c.loop-i-test.true
    c.index-params-i.is c.loop-i.invariant c.in_default.ensures

pub add_listed-returns : goal.add_listed-returns
add_listed-returns t c = all-params _ _ _ _ c.args.params.now c.loop-i.i c.loop-i-test.false c.loop-i.invariant
