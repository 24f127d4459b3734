use Rattle.std.proofs.Common.{[], ◌∷◌, subst, sym, string_bytes}
use Rattle.p21_commands.specs.Failures.{failures_of}
use Rattle.p21_commands.specs.Numbered.{IsCheckedApart}
use Rattle.p21_commands.specs.declared.fault.CommandFault.TheVariants as command
use Rattle.p21_commands.proofs.Failing.{after_reading}
use Rattle.p21_commands.proofs.Numbering.{checked-apart, names-refused, numbering-failed}
use Rattle.p21_commands.proofs.Reporting.{ends-unanswered, ends-with}
use Rattle.p21_commands.proofs.check_numbered.check_file_numbered.Goals as goal

pub returns-in-Err-clause-ends : goal.returns-in-Err-clause-ends
returns-in-Err-clause-ends g c = λ schema declares.
    let file = failures_of c.args.file.now c.count_numbered.new.reader in
    let refuses = names-refused schema.before _ _ _ declares.declares _ c.in-Err.refusal _ c.usual.ensures c.fault_of_names.ensures
    c.in-Err.ensures.err in
    let by = numbering-failed _ _ _ _ [] file c.in-Err.refusal _ c.fault_of_names.ensures c.in-Err.ensures.err c.in-Err.ensures.failed in
    ends-unanswered _ _ (schema.failures ∷ file ∷ []) g.W.Write.contents c.args.output.now _ c.fault_of_names.result _ refuses
    (after_reading schema.failures (file ∷ []) [] c.fault_of_names.result declares.unfailed.0 by) c.report.ensures

pub returns-in-Ok-answer_line_of-clause-ends : goal.returns-in-Ok-answer_line_of-clause-ends
returns-in-Ok-answer_line_of-clause-ends g c = λ schema declares.
    let IsAnswer = IsCheckedApart schema.before (g.R.Read.remaining c.args.file.now.inner)
    (g.R.Read.remaining c.count_numbered.new.reader.inner) in
    let line = checked-apart schema.before _ _ _ declares.declares _ c.in-Ok.counted (string_bytes c.in-Ok-answer_line_of.line)
    c.usual.ensures c.in-Ok.ensures.ok c.in-Ok-answer_line_of.ensures in
    let readers = schema.failures ∷ failures_of c.args.file.now c.count_numbered.new.reader ∷ [] in
    ends-with IsAnswer _ readers _ _ _ _ (subst IsAnswer (sym c.as_bytes.ensures.value) line)
    (declares.unfailed.0, (c.in-Ok.ensures.read, tt)) c.answer.ensures

pub returns-in-Err-answer_line_of-clause-ends : goal.returns-in-Err-answer_line_of-clause-ends
returns-in-Err-answer_line_of-clause-ends g c = λ schema declares.
    ends-unanswered _ _ (schema.failures ∷ failures_of c.args.file.now c.count_numbered.new.reader ∷ []) g.W.Write.contents
    c.args.output.now _ command.NoMemory _ tt ((declares.unfailed.0, (c.in-Ok.ensures.read, tt)), tt)
    c.report-in-Err-answer_line_of.ensures
