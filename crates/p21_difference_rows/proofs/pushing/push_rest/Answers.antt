use Rattle.p21_difference_rows.proofs.Adding.{no-text, rest-ended, text-added}
use Rattle.p21_difference_rows.proofs.pushing.push_rest.Goals as goal

pub loop-byte-init : goal.loop-byte-init
loop-byte-init c = no-text c.args.text.now.items

pub loop-byte-preserved : goal.loop-byte-preserved
loop-byte-preserved c = text-added _ _ _ c.loop-byte.invariant c.in_ok-push_within.ensures

pub returns : goal.returns
returns c = rest-ended _ _ _ c.loop-byte.invariant c.in_ok-push.ensures.items
