use Rattle.std.proofs.Common.{subst, arith}
use Rattle.p21_stream_survey.proofs.LastStage.{again-needs, loop-further, loop-goes}
use Rattle.p21_stream_survey.specs.ReadOut.{EndsStage}
use Rattle.p21_stream_survey.specs.declared.at_end.AtEnd.{AtEnd}
use Rattle.p21_stream_survey.proofs.survey.Survey.finish_statements.Goals as goal

pub feed_last-requires : goal.feed_last-requires
feed_last-requires c = again-needs c.args.self.now c.loop-extent.self c.finish_stage.new.self c.in-Ok-Again.bytes.items
    c.loop-extent.invariant
    (subst (λ (e : AtEnd). EndsStage c.loop-extent.self c.loop-extent.self.stage e c.finish_stage.new.self) c.in-Ok-Again.field-0-is
    c.in-Ok-Again.ensures.ends) c.in-Ok-Again.ensures.stage

pub loop-extent-smaller : goal.loop-extent-smaller
loop-extent-smaller c =
    let (further, within, most) = loop-further c.args.self.now c.loop-extent.self c.finish_stage.new.self c.feed_last.new.self
    c.in-Ok-Again.bytes.items c.loop-extent.invariant
    (subst (λ (e : AtEnd). EndsStage c.loop-extent.self c.loop-extent.self.stage e c.finish_stage.new.self) c.in-Ok-Again.field-0-is
    c.in-Ok-Again.ensures.ends) c.in-Ok-Again.ensures.stage c.in-Ok.ensures in
    omega (arith, further, within, most)

pub loop-extent-preserved : goal.loop-extent-preserved
loop-extent-preserved c = loop-goes c.args.self.now c.loop-extent.self c.finish_stage.new.self c.feed_last.new.self
    c.in-Ok-Again.bytes.items c.loop-extent.invariant
    (subst (λ (e : AtEnd). EndsStage c.loop-extent.self c.loop-extent.self.stage e c.finish_stage.new.self) c.in-Ok-Again.field-0-is
    c.in-Ok-Again.ensures.ends) c.in-Ok-Again.ensures.stage c.in-Ok.ensures
