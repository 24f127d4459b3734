use Rattle.p21_stream_syntax.proofs.Adding.{adds-none, adds-part, all-parts}
use Rattle.p21_stream_syntax.proofs.references.add_parts.Goals as goal

pub loop-part-init : goal.loop-part-init
loop-part-init c = adds-none _ _

pub loop-part-preserved : goal.loop-part-preserved
loop-part-preserved c = adds-part _ _ _ _ _ c.args.parts.now c.loop-part.part-index c.part-item.result c.loop-part-test.true c.part-item.is
    c.loop-part.invariant c.in_default.ensures

pub returns : goal.returns
returns c = all-parts _ _ _ _ c.args.parts.now c.loop-part.part-index c.loop-part-test.false c.loop-part.invariant
