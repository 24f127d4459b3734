use Rattle.std.proofs.Common.{[], subst}
use Rattle.p21_stream_log.specs.Passage.{PassageGives}
use Rattle.p21_stream_log.specs.declared.passage.Passage.{Passage}
use Rattle.p21_stream_survey.proofs.PassedOn.{passed-of_file}
use Rattle.p21_stream_survey.proofs.OpenRemarks.{goes-on_where, stays-long, stays-mark, stays-sought}
use Rattle.p21_stream_survey.proofs.unended.list_unended.Goals as goal

pub returns-in-GoesOn-clause-passes : goal.returns-in-GoesOn-clause-passes
returns-in-GoesOn-clause-passes c =
    goes-on_where c.args.log.now c.pass_unended.new.self c.args.listing.now c.list_passed.new.listing c.args.fault c.args.begins
    c.in-GoesOn.count c.args.statement.now c.list_passed.result
    (subst (λ (p : Passage). PassageGives c.args.log.now c.args.statement.now [] p c.pass_unended.new.self) c.in-GoesOn.is
    c.pass_unended.ensures.gives) c.list_passed.ensures

pub returns-in-AtFileMark-clause-passes : goal.returns-in-AtFileMark-clause-passes
returns-in-AtFileMark-clause-passes c =
    stays-mark c.args.log.now c.pass_unended.new.self c.args.listing.now c.args.fault c.args.begins c.args.statement.now
    (subst (λ (p : Passage). PassageGives c.args.log.now c.args.statement.now [] p c.pass_unended.new.self) c.in-AtFileMark.is
    c.pass_unended.ensures.gives)

pub returns-in-TooLong-clause-passes : goal.returns-in-TooLong-clause-passes
returns-in-TooLong-clause-passes c =
    stays-long c.args.log.now c.pass_unended.new.self c.args.listing.now c.args.fault c.args.begins c.args.statement.now
    (subst (λ (p : Passage). PassageGives c.args.log.now c.args.statement.now [] p c.pass_unended.new.self) c.in-TooLong.is
    c.pass_unended.ensures.gives)

pub returns-in-Sought-clause-passes : goal.returns-in-Sought-clause-passes
returns-in-Sought-clause-passes c =
    stays-sought c.args.log.now c.pass_unended.new.self c.args.listing.now c.args.fault c.args.begins c.args.statement.now
    c.in-Sought.seeker
    (subst (λ (p : Passage). PassageGives c.args.log.now c.args.statement.now [] p c.pass_unended.new.self) c.in-Sought.is
    c.pass_unended.ensures.gives)

pub returns-in-GoesOn-clause-of_file : goal.returns-in-GoesOn-clause-of_file
returns-in-GoesOn-clause-of_file c =
    passed-of_file c.args.listing.now c.list_passed.new.listing c.args.fault c.args.begins _ _ c.list_passed.result c.list_passed.ensures
