use Rattle.p21_numbering.proofs.LabelRows.{texts-next}
use Rattle.p21_numbering.proofs.text_rows.with_texts.Goals as goal

pub loop-one-preserved : goal.loop-one-preserved
loop-one-preserved c = texts-next c.args.texts.now c.loop-one.one-index _ c.args.row.items c.loop-one.more.items c.in_ok-more.more.items
    c.loop-one-test.true c.loop-one.invariant c.in_ok-more.ensures
