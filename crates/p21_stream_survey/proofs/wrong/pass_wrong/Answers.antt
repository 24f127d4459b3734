use Rattle.std.proofs.Common.{[], refl, subst}
use Rattle.p21_stream_log.specs.Passage.{PassageGives}
use Rattle.p21_stream_log.specs.declared.passage.Passage.{Passage}
use Rattle.p21_stream_log.specs.declared.passage.Passage.TheVariants.{AtFileMark, Sought, TooLong}
use Rattle.p21_stream_survey.proofs.WrongOn.{goes-on_where, says-wrong}
use Rattle.p21_stream_survey.proofs.wrong.pass_wrong.Goals as goal

pub returns-in-Ok-GoesOn-clause-passes : goal.returns-in-Ok-GoesOn-clause-passes
returns-in-Ok-GoesOn-clause-passes c =
    goes-on_where c.log_laws.ensures.wrong c.args.log.now c.pass.new.self c.args.listing.now c.list_wrong.new.listing c.args.wrong.name
    c.args.wrong.begins c.in-Ok-GoesOn.count c.args.wrong.fault c.args.bytes.now c.list_wrong.result
    (subst (λ (p : Passage). PassageGives c.args.log.now c.args.bytes.now [] p c.pass.new.self) c.in-Ok-GoesOn.field-0-is
    c.in-Ok-GoesOn.ensures.gives) c.list_wrong.ensures

pub returns-in-Ok-AtFileMark-clause-passes : goal.returns-in-Ok-AtFileMark-clause-passes
returns-in-Ok-AtFileMark-clause-passes c = (
  refl,
  says-wrong c.log_laws.ensures.wrong c.args.log.now c.pass.new.self c.args.wrong.name c.args.wrong.begins c.args.wrong.fault
      c.args.bytes.now AtFileMark (subst (λ (p : Passage). PassageGives c.args.log.now c.args.bytes.now [] p c.pass.new.self)
      c.in-Ok-AtFileMark.field-0-is c.in-Ok-AtFileMark.ensures.gives),
)

pub returns-in-Ok-TooLong-clause-passes : goal.returns-in-Ok-TooLong-clause-passes
returns-in-Ok-TooLong-clause-passes c = (
  refl,
  says-wrong c.log_laws.ensures.wrong c.args.log.now c.pass.new.self c.args.wrong.name c.args.wrong.begins c.args.wrong.fault
      c.args.bytes.now TooLong (subst (λ (p : Passage). PassageGives c.args.log.now c.args.bytes.now [] p c.pass.new.self)
      c.in-Ok-TooLong.field-0-is c.in-Ok-TooLong.ensures.gives),
)

pub returns-in-Ok-Sought-clause-passes : goal.returns-in-Ok-Sought-clause-passes
returns-in-Ok-Sought-clause-passes c = (
  refl,
  says-wrong c.log_laws.ensures.wrong c.args.log.now c.pass.new.self c.args.wrong.name c.args.wrong.begins c.args.wrong.fault
      c.args.bytes.now (Sought c.in-Ok-Sought.seeker) (subst
      (λ (p : Passage). PassageGives c.args.log.now c.args.bytes.now [] p c.pass.new.self) c.in-Ok-Sought.field-0-is
      c.in-Ok-Sought.ensures.gives),
)
