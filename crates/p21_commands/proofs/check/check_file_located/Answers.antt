use Rattle.std.proofs.Common.{[], ◌∷◌, subst, sym, string_bytes}
use Rattle.p21_commands.specs.Check.{IsChecked}
use Rattle.p21_commands.specs.Failures.{failures_of}
use Rattle.p21_commands.specs.declared.fault.CommandFault.TheVariants as command
use Rattle.p21_commands.proofs.Checking.{checked-by}
use Rattle.p21_commands.proofs.Counting.{reading-failed}
use Rattle.p21_commands.proofs.Failing.{after_reading}
use Rattle.p21_commands.proofs.FileFailing.{file-fails, under-refused}
use Rattle.p21_commands.proofs.Reporting.{ends-unanswered, ends-with}
use Rattle.p21_commands.proofs.check.check_file_located.Goals as goal

pub returns-in-Err-clause-ends : goal.returns-in-Err-clause-ends
returns-in-Err-clause-ends g c = λ schema declares.
    let file = failures_of c.args.file.now c.count_located.new.reader in
    let refuses = under-refused schema.before _ _ _ (file-fails schema.before _ _ _ _ c.in-Err.located.refusal _ c.usual.ensures
    c.fault_of.ensures c.in-Err.ensures.err declares.declares) in
    let by = reading-failed _ _ _ _ [] file c.in-Err.located.refusal _ c.fault_of.ensures c.in-Err.ensures.err c.in-Err.ensures.failed in
    ends-unanswered _ _ (schema.failures ∷ file ∷ []) g.W.Write.contents c.args.output.now _ c.fault_of.result _ refuses
    (after_reading schema.failures (file ∷ []) [] c.fault_of.result declares.unfailed.0 by) c.report.ensures

pub returns-in-Ok-answer_line_of-clause-ends : goal.returns-in-Ok-answer_line_of-clause-ends
returns-in-Ok-answer_line_of-clause-ends g c = λ schema declares.
    let IsAnswer = IsChecked schema.before (g.R.Read.remaining c.args.file.now.inner)
    (g.R.Read.remaining c.count_located.new.reader.inner) in
    let line = checked-by schema.before _ _ _ _ c.in-Ok.counted (string_bytes c.in-Ok-answer_line_of.line) c.usual.ensures
    c.in-Ok.ensures.ok c.in-Ok-answer_line_of.ensures declares.declares in
    let readers = schema.failures ∷ failures_of c.args.file.now c.count_located.new.reader ∷ [] in
    ends-with IsAnswer _ readers _ _ _ _ (subst IsAnswer (sym c.as_bytes.ensures.value) line)
    (declares.unfailed.0, (c.in-Ok.ensures.read, tt)) c.answer.ensures

pub returns-in-Err-answer_line_of-clause-ends : goal.returns-in-Err-answer_line_of-clause-ends
returns-in-Err-answer_line_of-clause-ends g c = λ schema declares.
    ends-unanswered _ _ (schema.failures ∷ failures_of c.args.file.now c.count_located.new.reader ∷ []) g.W.Write.contents c.args.output.now
    _ command.NoMemory _ tt ((declares.unfailed.0, (c.in-Ok.ensures.read, tt)), tt) c.report-in-Err-answer_line_of.ensures
