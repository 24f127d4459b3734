use Rattle.p21_c.proofs.Answering.{checked-accepted, checked-refused}
use Rattle.p21_c.proofs.files.check.Goals as goal

pub returns-in-Ok : goal.returns-in-Ok
returns-in-Ok c = checked-accepted _ c.deref.result.now _ c.in-Some.ensures c.deref.ensures c.accepted.result c.args.file.now c.in-Ok.output
    c.in-Ok.ensures.ok c.accepted.ensures

pub returns-in-Err : goal.returns-in-Err
returns-in-Err c = checked-refused _ c.deref.result.now _ c.in-Some.ensures c.deref.ensures c.refused-answer.result c.args.file.now
    c.in-Err.located.refusal c.in-Err.ensures.err c.refused-answer.ensures
