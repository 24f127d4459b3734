use Rattle.p21_c.proofs.Answering.{canonical-made, canonical-refused}
use Rattle.p21_c.proofs.files.canonical.Goals as goal

pub returns-in-Err : goal.returns-in-Err
returns-in-Err c = canonical-refused _ c.deref.result.now _ c.in-Some.ensures c.deref.ensures c.refused-answer.result c.args.file.now
    c.in-Err.located.refusal c.in-Err.ensures.err c.refused-answer.ensures

pub returns-in-Some-file_of : goal.returns-in-Some-file_of
returns-in-Some-file_of c = canonical-made _ c.deref.result.now _ c.in-Some.ensures c.deref.ensures c.accepted-answer.result c.args.file.now
    c.in-Ok.output _ c.in-Ok.ensures.ok c.in-Some-file_of.ensures c.accepted-answer.ensures
