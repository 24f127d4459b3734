use Rattle.std.proofs.Common.{◌∙◌}
use Rattle.p21_shorter_instances.proofs.Joining.{draft-back, needs-back}
use Rattle.p21_shorter_instances.proofs.external.append_by_guess.Goals as goal

pub cut-requires : goal.cut-requires
cut-requires c = (draft-back c.args.taken.now.draft c.append_by_set.new.taken.draft c.len-start.result c.len-start.ensures
    c.in-Err.ensures.draft).0

pub returns-in-Err-clause-draft : goal.returns-in-Err-clause-draft
returns-in-Err-clause-draft c =
    c.cut.ensures ∙ (draft-back c.args.taken.now.draft c.append_by_set.new.taken.draft c.len-start.result c.len-start.ensures
    c.in-Err.ensures.draft).1

pub returns-in-Err-clause-needs : goal.returns-in-Err-clause-needs
returns-in-Err-clause-needs c =
    c.truncate.ensures.items ∙ needs-back c.args.taken.now.needs.items c.append_by_set.new.taken.needs.items c.len-before.result
    (c.len-before.ensures ∙ c.args.taken.now.needs.ok.0) c.in-Err.ensures.needs
