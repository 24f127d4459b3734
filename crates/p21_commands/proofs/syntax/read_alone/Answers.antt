use Rattle.p21_commands.specs.Failures.{failures_of}
use Rattle.p21_commands.proofs.Syntaxes.{syntax-answered, syntax-fails, syntax-refuses}
use Rattle.p21_commands.proofs.syntax.read_alone.Goals as goal

pub returns-in-Ok-told_text-clause-ok : goal.returns-in-Ok-told_text-clause-ok
returns-in-Ok-told_text-clause-ok g c = syntax-answered _ _ _ _ c.in-Ok.found c.in-Ok-told_text.text.items c.usual.ensures
    c.in-Ok.ensures.ok c.in-Ok-told_text.ensures

pub returns-in-Err-clause-err : goal.returns-in-Err-clause-err
returns-in-Err-clause-err g c = syntax-refuses _ _ _ c.in-Err.ill_formed.refusal _ c.usual.ensures c.fault_of.ensures c.in-Err.ensures.err

pub returns-in-Err-clause-failed : goal.returns-in-Err-clause-failed
returns-in-Err-clause-failed g c = syntax-fails _ _ _ (failures_of c.args.file.now c.syntax_located.new.reader) c.in-Err.ill_formed.refusal
    _ c.usual.ensures c.fault_of.ensures c.in-Err.ensures.err c.in-Err.ensures.failed
