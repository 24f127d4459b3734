use Rattle.p21_shorter_tokens.proofs.Respelling.{more-respelled}
use Rattle.p21_shorter_tokens.proofs.respelled_text.append_inside.Goals as goal

pub loop-count-preserved : goal.loop-count-preserved
loop-count-preserved c = more-respelled c.args.inside.now c.loop-count.count c.loop-count.characters c.in_ok-bytes.bytes c.in_ok-bytes.more c.args.draft.now c.loop-count.draft c.append_some.new.draft c.loop-count.invariant (c.in_ok-bytes.ensures.some)
