use Rattle.std.proofs.Common.{[], subst, sym}
use Rattle.p21_commands.specs.Syntax.{IsTold}
use Rattle.p21_commands.proofs.Reporting.{ends-with}
use Rattle.p21_commands.proofs.SurveysAlone.{alone-listing, alone-memory, alone-written}
use Rattle.p21_commands.proofs.syntax_all.syntax_all_command.Goals as goal

pub returns-in-Ok-Told-clause-ends : goal.returns-in-Ok-Told-clause-ends
returns-in-Ok-Told-clause-ends g c =
    let told = rw c.in-Ok-Told.field-0-is at c.in-Ok-Told.ensures.ok in
    let read = rw c.in-Ok-Told.field-0-is at c.in-Ok-Told.ensures.read in
    let IsAnswer = IsTold c.args.details (g.R.Read.remaining c.args.file.now.inner) (g.R.Read.remaining c.find_answer.new.file.inner) in
    alone-listing _ _ _ _ (ends-with IsAnswer _ [] _ _ _ _ (subst IsAnswer (sym c.deref.ensures.value) told) tt c.answer.ensures) read

pub returns-in-Ok-Refused-clause-ends : goal.returns-in-Ok-Refused-clause-ends
returns-in-Ok-Refused-clause-ends g c =
    let text = rw c.in-Ok-Refused.field-0-is at c.in-Ok-Refused.ensures.ok in
    let read = rw c.in-Ok-Refused.field-0-is at c.in-Ok-Refused.ensures.read in
    alone-written _ _ _ _ g.W.Write.contents c.args.output.now c.in-Ok-Refused.said.lines _ _ text read c.write_refused.ensures.writes

pub returns-in-Err-clause-ends : goal.returns-in-Err-clause-ends
returns-in-Err-clause-ends g c = alone-memory _ _ _ _ g.W.Write.contents c.args.output.now _ c.in-Err.ensures.failed c.report.ensures
