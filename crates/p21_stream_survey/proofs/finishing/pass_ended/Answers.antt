use Rattle.std.proofs.Common.{[], subst}
use Rattle.p21_stream_log.specs.Passage.{PassageGives}
use Rattle.p21_stream_log.specs.declared.passage.Passage.{Passage}
use Rattle.p21_stream_survey.proofs.AtEnd.{goes-on_where, stays-long, stays-mark, stays-sought}
use Rattle.p21_stream_survey.proofs.PassedOn.{passed-of_file}
use Rattle.p21_stream_survey.proofs.finishing.pass_ended.Goals as goal

pub returns-in-Ok-GoesOn-clause-passes : goal.returns-in-Ok-GoesOn-clause-passes
returns-in-Ok-GoesOn-clause-passes c =
    goes-on_where c.log_laws.ensures.ended c.args.log.now c.pass.new.self c.args.listing.now c.list_passed.new.listing c.args.fault
    c.args.begins c.in-Ok-GoesOn.count c.args.bytes.now c.list_passed.result
    (subst (λ (p : Passage). PassageGives c.args.log.now c.args.bytes.now [] p c.pass.new.self) c.in-Ok-GoesOn.field-0-is
    c.in-Ok-GoesOn.ensures.gives) c.list_passed.ensures

pub returns-in-Ok-AtFileMark-clause-passes : goal.returns-in-Ok-AtFileMark-clause-passes
returns-in-Ok-AtFileMark-clause-passes c =
    stays-mark c.log_laws.ensures.ended c.args.log.now c.pass.new.self c.args.listing.now c.args.fault c.args.begins c.args.bytes.now
    (subst (λ (p : Passage). PassageGives c.args.log.now c.args.bytes.now [] p c.pass.new.self) c.in-Ok-AtFileMark.field-0-is
    c.in-Ok-AtFileMark.ensures.gives)

pub returns-in-Ok-TooLong-clause-passes : goal.returns-in-Ok-TooLong-clause-passes
returns-in-Ok-TooLong-clause-passes c =
    stays-long c.log_laws.ensures.ended c.args.log.now c.pass.new.self c.args.listing.now c.args.fault c.args.begins c.args.bytes.now
    (subst (λ (p : Passage). PassageGives c.args.log.now c.args.bytes.now [] p c.pass.new.self) c.in-Ok-TooLong.field-0-is
    c.in-Ok-TooLong.ensures.gives)

pub returns-in-Ok-Sought-clause-passes : goal.returns-in-Ok-Sought-clause-passes
returns-in-Ok-Sought-clause-passes c =
    stays-sought c.log_laws.ensures.ended c.args.log.now c.pass.new.self c.args.listing.now c.args.fault c.args.begins c.args.bytes.now
    c.in-Ok-Sought.seeker
    (subst (λ (p : Passage). PassageGives c.args.log.now c.args.bytes.now [] p c.pass.new.self) c.in-Ok-Sought.field-0-is
    c.in-Ok-Sought.ensures.gives)

pub returns-in-Ok-GoesOn-clause-of_file : goal.returns-in-Ok-GoesOn-clause-of_file
returns-in-Ok-GoesOn-clause-of_file c =
    passed-of_file c.args.listing.now c.list_passed.new.listing c.args.fault c.args.begins _ _ c.list_passed.result c.list_passed.ensures
