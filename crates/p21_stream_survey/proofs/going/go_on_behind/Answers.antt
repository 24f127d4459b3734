use Rattle.std.proofs.Common.{refl, subst}
use Rattle.p21_stream_log.specs.declared.passage.Passage.{Passage}
use Rattle.p21_stream_survey.proofs.PassedOn.{goes-on_where}
use Rattle.p21_stream_survey.specs.Breaking.{PassesBroken}
use Rattle.p21_stream_survey.proofs.going.go_on_behind.Goals as goal

pub returns-in-Ok-GoesOn-clause-goes : goal.returns-in-Ok-GoesOn-clause-goes
returns-in-Ok-GoesOn-clause-goes c =
    goes-on_where c.args.log.now c.pass_broken.new.log c.args.listing.now c.list_passed.new.listing c.args.broken.fault c.args.broken.begins
    c.in-Ok-GoesOn.count c.args.bytes.now c.list_passed.result
    (subst (λ (p : Passage). PassesBroken c.args.log.now c.args.broken.fault c.args.bytes.now p c.pass_broken.new.log)
    c.in-Ok-GoesOn.field-0-is c.in-Ok-GoesOn.ensures.passes) c.list_passed.ensures

pub returns-in-Ok-AtFileMark-clause-goes : goal.returns-in-Ok-AtFileMark-clause-goes
returns-in-Ok-AtFileMark-clause-goes c = (
  refl,
  subst
      (λ (p : Passage). PassesBroken c.args.log.now c.args.broken.fault c.args.bytes.now p c.pass_broken.new.log)
      c.in-Ok-AtFileMark.field-0-is c.in-Ok-AtFileMark.ensures.passes,
)

pub returns-in-Ok-TooLong-clause-goes : goal.returns-in-Ok-TooLong-clause-goes
returns-in-Ok-TooLong-clause-goes c = (
  refl,
  subst
      (λ (p : Passage). PassesBroken c.args.log.now c.args.broken.fault c.args.bytes.now p c.pass_broken.new.log) c.in-Ok-TooLong.field-0-is
      c.in-Ok-TooLong.ensures.passes,
)

pub returns-in-Ok-Sought-clause-goes : goal.returns-in-Ok-Sought-clause-goes
returns-in-Ok-Sought-clause-goes c = (
  refl,
  subst (λ (p : Passage). PassesBroken c.args.log.now c.args.broken.fault c.args.bytes.now p
      c.pass_broken.new.log) c.in-Ok-Sought.field-0-is c.in-Ok-Sought.ensures.passes,
)
