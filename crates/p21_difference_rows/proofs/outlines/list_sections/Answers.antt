use Rattle.p21_difference_rows.proofs.Adding.{none-more}
use Rattle.p21_difference_rows.specs.Asked.{left_out_of}
use Rattle.p21_difference_rows.specs.RealNames.{real_name}
use Rattle.p21_difference_rows.proofs.outlines.list_sections.Goals as goal

pub loop-preserved : goal.loop-preserved
loop-preserved c = none-more c.args.style.now.form c.args.style.now.schema.now (real_name c.args.style.now.names)
    (left_out_of c.args.style.now.left_out) _ _ _ c.loop.invariant
    c.in_ok-put.ensures
