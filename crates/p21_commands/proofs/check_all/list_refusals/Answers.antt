use Rattle.std.proofs.Common.{[], ◌∷◌, subst, sym}
use Rattle.p21_commands.specs.Check.{IsChecked}
use Rattle.p21_commands.proofs.Reporting.{ends-with}
use Rattle.p21_commands.proofs.Surveys.{listing-ends, listing-written, memory-listing}
use Rattle.p21_commands.proofs.check_all.list_refusals.Goals as goal

pub returns-in-Ok-Accepted-clause-ends : goal.returns-in-Ok-Accepted-clause-ends
returns-in-Ok-Accepted-clause-ends g c = λ schema declares.
    let said = c.in-Ok-Accepted.ensures.ok schema.before declares.declares in
    let line = rw c.in-Ok-Accepted.field-0-is at said in
    let read = rw c.in-Ok-Accepted.field-0-is at c.in-Ok-Accepted.ensures.read in
    let IsAnswer = IsChecked schema.before (g.R.Read.remaining c.args.file.now.inner) (g.R.Read.remaining c.find_answer.new.file.inner) in
    listing-ends _ _ _ (ends-with IsAnswer _ (schema.failures ∷ []) _ _ _ _ (subst IsAnswer (sym c.as_bytes.ensures.value) line)
    declares.unfailed c.answer.ensures) read

pub returns-in-Ok-Refused-clause-ends : goal.returns-in-Ok-Refused-clause-ends
returns-in-Ok-Refused-clause-ends g c = λ schema declares.
    let said = c.in-Ok-Refused.ensures.ok schema.before declares.declares in
    let text = rw c.in-Ok-Refused.field-0-is at said in
    let read = rw c.in-Ok-Refused.field-0-is at c.in-Ok-Refused.ensures.read in
    listing-written _ schema _ _ g.W.Write.contents c.args.output.now declares.unfailed c.in-Ok-Refused.said.lines _ _ text read
    c.write_refused.ensures.writes

pub returns-in-Err-clause-ends : goal.returns-in-Err-clause-ends
returns-in-Err-clause-ends g c = λ schema declares. memory-listing _ schema _ _ g.W.Write.contents c.args.output.now declares.unfailed _
    c.in-Err.ensures.failed c.report.ensures
