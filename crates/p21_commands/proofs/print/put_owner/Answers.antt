use Rattle.std.proofs.Common.{◌∙◌}
use Rattle.p21_commands.specs.SchemaText.{words_of}
use Rattle.p21_commands.proofs.SchemaTexts.{own-words}
use Rattle.p21_spec_schema.specs.Order.{own_places}
use Rattle.p21_commands.proofs.print.put_owner.Goals as goal

pub returns-in-Some-clause-ok : goal.returns-in-Some-clause-ok
returns-in-Some-clause-ok g c =
    c.put_text.ensures.ok (words_of c.args.schema.now c.args.entity.0 (own_places c.args.schema.now c.args.owner.0))
    (c.deref.ensures.value ∙ own-words c.args.schema.now c.args.texts.now c.args.entity.0 c.args.owner.0 c.index-texts-owner.result
    c.in-Some.text c.requires.texts c.requires.owner c.index-texts-owner.is c.in-Some.is)

pub returns-in-Some-clause-some : goal.returns-in-Some-clause-some
returns-in-Some-clause-some g c =
    c.put_text.ensures.some (words_of c.args.schema.now c.args.entity.0 (own_places c.args.schema.now c.args.owner.0))
    (c.deref.ensures.value ∙ own-words c.args.schema.now c.args.texts.now c.args.entity.0 c.args.owner.0 c.index-texts-owner.result
    c.in-Some.text c.requires.texts c.requires.owner c.index-texts-owner.is c.in-Some.is)

pub returns-in-Some-clause-err : goal.returns-in-Some-clause-err
returns-in-Some-clause-err g c =
    c.put_text.ensures.err (words_of c.args.schema.now c.args.entity.0 (own_places c.args.schema.now c.args.owner.0))
    (c.deref.ensures.value ∙ own-words c.args.schema.now c.args.texts.now c.args.entity.0 c.args.owner.0 c.index-texts-owner.result
    c.in-Some.text c.requires.texts c.requires.owner c.index-texts-owner.is c.in-Some.is)
