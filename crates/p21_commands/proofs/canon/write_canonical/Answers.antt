use Rattle.std.proofs.Common.{[], ◌∷◌}
use Rattle.p21_commands.specs.Failures.{failures_of}
use Rattle.p21_commands.proofs.Failing.{after_reading}
use Rattle.p21_commands.proofs.Counting.{rewriting-failed}
use Rattle.p21_commands.proofs.Writing.{canonical-fails, canonical-written}
use Rattle.p21_commands.proofs.canon.write_canonical.Goals as goal

pub returns-clause-err : goal.returns-clause-err
returns-clause-err g c = canonical-fails _ _ _ _ _ _ c.in_ok-schema.ensures.ok _ c.in-Err.refusal _ c.usual.ensures c.fault_of.ensures
    c.in-Err.ensures.err

pub returns-in-Ok-clause-ok : goal.returns-in-Ok-clause-ok
returns-in-Ok-clause-ok g c = canonical-written _ _ _ _ _ _ c.in_ok-schema.ensures.ok _ _ c.usual.ensures c.in-Ok.ensures.ok

pub returns-clause-failed : goal.returns-clause-failed
returns-clause-failed g c =
    after_reading _ (failures_of c.args.file.now c.rewrite.new.reader ∷ []) (failures_of c.args.output.now c.rewrite.new.writer ∷ []) _
    c.in_ok-schema.ensures.read
    (rewriting-failed [] _ _ c.in-Err.refusal _ c.fault_of.ensures c.in-Err.ensures.failed_read c.in-Err.ensures.failed_write)
