use Rattle.std.proofs.Common.{refl, ◌∙◌, append-nil}
use Rattle.p21_stream_survey.proofs.LastStage.{unread-ends}
use Rattle.p21_stream_survey.proofs.survey.Survey.end_unread.Goals as goal

pub returns-in-Ok-end_unread-clause-ends : goal.returns-in-Ok-end_unread-clause-ends
returns-in-Ok-end_unread-clause-ends c =
    unread-ends c.args.self.now (record c.args.self.now { listing = c.end_unread.new.listing }) c.deref.result.now c.in-Ok-end_unread.extent
    (c.deref.ensures.value ∙ (c.in-Ok.ensures ∙ append-nil c.args.self.now.log.buffer))
    (record { rules = refl; limits = refl; most = refl })
    c.in-Ok-end_unread.ensures.ends c.in-Ok-end_unread.ensures.extent c.in-Ok-end_unread.ensures.listed
