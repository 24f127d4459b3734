use Rattle.p21_c.specs.Contents.{boxed_content}
use Rattle.p21_c.proofs.Telling.{told-found, told-refused}
use Rattle.p21_c.proofs.syntax.tell.Goals as goal

pub returns-in-Err : goal.returns-in-Err
returns-in-Err c =
    told-refused c.usual.result c.usual.ensures c.args.file.now c.refused.result c.in-Err.ill_formed.refusal
    (boxed_content c.nothing.result.schema) (boxed_content c.nothing.result.header) (boxed_content c.nothing.result.keywords)
    c.in-Err.ensures.err c.in-Err.ensures.kind c.nothing.ensures.schema c.nothing.ensures.header c.nothing.ensures.keywords
    c.refused.ensures

pub returns-in-Some : goal.returns-in-Some
returns-in-Some c =
    told-found c.usual.result c.usual.ensures c.args.file.now c.counted.result c.in-Ok.found (boxed_content c.in-Some.texts.schema)
    (boxed_content c.in-Some.texts.header) (boxed_content c.in-Some.texts.keywords) c.in-Ok.ensures.ok c.in-Some.ensures
    c.counted.ensures
