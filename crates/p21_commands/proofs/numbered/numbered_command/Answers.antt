use Rattle.std.proofs.Common.{[], ◌∷◌, ◌++◌, refl}
use Rattle.std.proofs.KnownBytes.{Keeps-refl}
use Rattle.p21_commands.specs.Failures.{failures_of}
use Rattle.p21_commands.proofs.Failing.{none_more}
use Rattle.p21_commands.proofs.Reporting.{ends-answered, ends-reported}
use Rattle.p21_commands.proofs.numbered.numbered_command.Goals as goal

pub returns-in-Ok-clause-ends : goal.returns-in-Ok-clause-ends
returns-in-Ok-clause-ends g c =
    let readers = failures_of c.args.schema.now c.write_numbered.new.schema ∷ failures_of c.args.file.now c.write_numbered.new.file ∷ [] in
    let output = failures_of c.args.output.now c.write_numbered.new.output in
    let faults = failures_of c.args.faults.now c.args.faults.now in
    ends-answered _ _ readers _ _ c.in-Ok.ensures.ok (Keeps-refl _)
    (none_more (readers ++ output ∷ []) (faults ∷ []) c.in-Ok.ensures.unfailed (refl, tt))

pub returns-in-Err-clause-ends : goal.returns-in-Err-clause-ends
returns-in-Err-clause-ends g c = ends-reported _ _
    (failures_of c.args.schema.now c.write_numbered.new.schema ∷ failures_of c.args.file.now c.write_numbered.new.file ∷ []) _ _ _ _
    c.in-Err.ensures.err c.in-Err.ensures.failed c.report.ensures
