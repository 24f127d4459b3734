use Rattle.std.proofs.Common.{◌∙◌}
use Rattle.p21_spec_basics.proofs.Members.{rest_is}
use Rattle.p21_shorter_instances.proofs.order.text_behind.Goals as goal

pub returns : goal.returns
returns c = (rw c.len.ensures at c.between.ensures) ∙ rest_is c.args.draft.now c.args.start
