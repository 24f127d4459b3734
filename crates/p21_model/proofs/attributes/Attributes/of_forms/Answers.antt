use Rattle.p21_model.proofs.Handing.{form-parts, form-whole}
use Rattle.p21_model.proofs.attributes.Attributes.of_forms.Goals as goal

pub returns-in-Some-clause-told : goal.returns-in-Some-clause-told
returns-in-Some-clause-told c record_ rows text are =
    form-parts c.args.schema.now record_ c.args.bytes.now c.in-Some.parts.now rows c.of_part.result text are c.in-Some.ensures.some
    c.of_part.ensures.some

pub returns-in-None-clause-told : goal.returns-in-None-clause-told
returns-in-None-clause-told c record_ rows text are =
    form-whole c.args.schema.now record_ c.args.bytes.now rows c.of_whole.result text are c.in-None.ensures.none c.of_whole.ensures.told
