use Rattle.std.proofs.Common.{[], ◌∷◌, refl, subst, sym}
use Rattle.p21_commands.specs.Show.{IsShown}
use Rattle.p21_commands.specs.Failures.{failures_of}
use Rattle.p21_commands.proofs.Failing.{after_reading, before_reading}
use Rattle.p21_commands.proofs.Reporting.{ends-unanswered, ends-with}
use Rattle.p21_commands.proofs.FileFailing.{schema-refused}
use Rattle.p21_commands.proofs.Showing.{not-shown}
use Rattle.p21_commands.proofs.show.show_command.Goals as goal

pub returns-in-Err-clause-ends : goal.returns-in-Err-clause-ends
returns-in-Err-clause-ends g c =
    let schema = failures_of c.args.schema.now c.load_schema.new.reader in
    let file = failures_of c.args.file.now c.args.file.now in
    ends-unanswered _ _ (schema ∷ file ∷ []) g.W.Write.contents c.args.output.now _ c.in-Err.fault _
    (not-shown _ _ _ _ c.in-Err.fault (schema-refused _ _ c.in-Err.fault c.in-Err.ensures.err))
    (before_reading schema (file ∷ []) [] c.in-Err.fault c.in-Err.ensures.failed (refl, tt)) c.report.ensures

pub returns-in-Ok-shown_line-clause-ends : goal.returns-in-Ok-shown_line-clause-ends
returns-in-Ok-shown_line-clause-ends g c =
    let reader = g.S.Read.remaining c.args.schema.now.inner in
    let IsAnswer = IsShown c.args.name reader (g.R.Read.remaining c.args.file.now.inner) (g.R.Read.remaining c.shown_line.new.file.inner) in
    let line = c.in-Ok-shown_line.ensures.ok reader c.in-Ok.ensures.ok in
    let readers = failures_of c.args.schema.now c.load_schema.new.reader ∷ failures_of c.args.file.now c.shown_line.new.file ∷ [] in
    ends-with IsAnswer _ readers _ _ _ _ (subst IsAnswer (sym c.deref.ensures.value) line)
    (c.in-Ok.ensures.read, (c.in-Ok-shown_line.ensures.read, tt)) c.answer.ensures

pub returns-clause-ends : goal.returns-clause-ends
returns-clause-ends g c =
    let refuses = c.in-Err-shown_line.ensures.err (g.S.Read.remaining c.args.schema.now.inner) c.in-Ok.ensures.ok in
    let schema = failures_of c.args.schema.now c.load_schema.new.reader in
    let file = failures_of c.args.file.now c.shown_line.new.file in
    ends-unanswered _ _ (schema ∷ file ∷ []) g.W.Write.contents c.args.output.now _ c.in-Err-shown_line.fault _ refuses
    (after_reading schema (file ∷ []) [] c.in-Err-shown_line.fault c.in-Ok.ensures.read c.in-Err-shown_line.ensures.failed)
    c.report-in-Err-shown_line.ensures
