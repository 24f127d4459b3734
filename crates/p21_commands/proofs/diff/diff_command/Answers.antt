use Rattle.std.proofs.Common.{[], ◌∷◌, refl}
use Rattle.std.proofs.KnownBytes.{Keeps-refl}
use Rattle.p21_commands.specs.Failures.{failures_of}
use Rattle.p21_commands.proofs.Comparing.{comparing-different, comparing-reported, comparing-same}
use Rattle.p21_commands.proofs.Failing.{none_more}
use Rattle.p21_commands.proofs.diff.diff_command.Goals as goal

pub returns-in-Err-clause-ends : goal.returns-in-Err-clause-ends
returns-in-Err-clause-ends g c = comparing-reported _ _ _ c.in-Err.fault _ c.in-Err.ensures.err c.in-Err.ensures.failed c.report.ensures

pub returns-in-Ok-true-clause-ends : goal.returns-in-Ok-true-clause-ends
returns-in-Ok-true-clause-ends g c =
    let new = c.write_differences.new in
    let calls = failures_of c.args.schema.now new.schema ∷ failures_of c.args.first.now new.first ∷ failures_of c.args.second.now
    new.second ∷ failures_of c.args.output.now new.output ∷ [] in
    comparing-same _ _ _ _ c.in-Ok-true.ensures.ok (Keeps-refl _)
    (none_more calls (failures_of c.args.faults.now c.args.faults.now ∷ []) c.in-Ok-true.ensures.unfailed (refl, tt))
    c.in-Ok-true.field-0-test

pub returns-in-Ok-false-clause-ends : goal.returns-in-Ok-false-clause-ends
returns-in-Ok-false-clause-ends g c =
    let new = c.write_differences.new in
    let calls = failures_of c.args.schema.now new.schema ∷ failures_of c.args.first.now new.first ∷ failures_of c.args.second.now
    new.second ∷ failures_of c.args.output.now new.output ∷ [] in
    comparing-different _ _ _ _ c.in-Ok-false.ensures.ok (Keeps-refl _)
    (none_more calls (failures_of c.args.faults.now c.args.faults.now ∷ []) c.in-Ok-false.ensures.unfailed (refl, tt))
    c.in-Ok-false.field-0-test
