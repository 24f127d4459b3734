use Rattle.std.proofs.Common.{[], ◌∷◌, subst, sym}
use Rattle.p21_commands.specs.Failures.{failures_of}
use Rattle.p21_commands.specs.Syntax.{IsTold}
use Rattle.p21_commands.proofs.Reporting.{ends-unanswered, ends-with}
use Rattle.p21_commands.proofs.syntax.syntax_located_command.Goals as goal

pub returns-in-Ok-clause-ends : goal.returns-in-Ok-clause-ends
returns-in-Ok-clause-ends g c =
    let IsAnswer = IsTold c.args.details (g.R.Read.remaining c.args.file.now.inner) (g.R.Read.remaining c.read_alone.new.file.inner) in
    ends-with IsAnswer _ (failures_of c.args.file.now c.read_alone.new.file ∷ []) _ _ _ _
    (subst IsAnswer (sym c.deref.ensures.value) c.in-Ok.ensures.ok) (c.in-Ok.ensures.read, tt) c.answer.ensures

pub returns-in-Err-clause-ends : goal.returns-in-Err-clause-ends
returns-in-Err-clause-ends g c = ends-unanswered _ _ (failures_of c.args.file.now c.read_alone.new.file ∷ []) g.W.Write.contents
    c.args.output.now _ c.in-Err.fault _ c.in-Err.ensures.err c.in-Err.ensures.failed c.report.ensures
