use Rattle.std.proofs.Common.{rules}
use Rattle.p21_difference_rows.proofs.Adding.{byte-added, no-text}
use Rattle.p21_difference_rows.proofs.pushing.push_within.Goals as goal

pub returns-then-byte-eq10 : goal.returns-then-byte-eq10
returns-then-byte-eq10 c = no-text c.args.text.now.items

pub returns : goal.returns
returns c = byte-added _ _ c.args.byte (search rules) c.in_ok-push.ensures.items
