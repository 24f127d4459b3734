use Rattle.std.proofs.Common.{refl, ◌∙◌, append-nil}
use Rattle.p21_stream_survey.proofs.Behind.{refused-follows}
use Rattle.p21_stream_survey.proofs.survey.Survey.follow_refused.Goals as goal

pub returns-in-Ok-end_at : goal.returns-in-Ok-end_at
returns-in-Ok-end_at c =
    refused-follows c.log_laws.ensures.offends c.args.self.now c.end_at.new.self c.args.fault c.in-Ok.bytes.items c.new.result.items
    (c.if-is_want_of_memory.ensures refl) (c.in-Ok.ensures ∙ append-nil c.args.self.now.log.buffer) c.new.ensures.items
    c.in-Ok-end_at.ensures
