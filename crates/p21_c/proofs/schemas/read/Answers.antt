use Rattle.p21_c.specs.Contents.{boxed_content}
use Rattle.p21_c.proofs.Answering.{kept-schema}
use Rattle.p21_c.proofs.schemas.read.Goals as goal

pub returns-in-Ok : goal.returns-in-Ok
returns-in-Ok c = kept-schema c.args.text.now c.in-Ok.schema c.store_schema.result.1 (boxed_content c.store_schema.result.0) c.in-Ok.ensures
    c.store_schema.ensures
