use Rattle.p21_express_syntax.specs.Declaring.{comma_attribute_of, attributes_from}
use Rattle.p21_express_syntax.proofs.Lists.{comma_attribute_shortens}
use Rattle.p21_express_syntax.proofs.Repeated.{loop_more, loop_stop, loop_wrong}
use Rattle.p21_express_syntax.proofs.attributes.read_attributes_from.Goals as goal

pub loop-attribute-smaller : goal.loop-attribute-smaller
loop-attribute-smaller c = comma_attribute_shortens c.loop-attribute.lexemes c.in-Ok-Some.attribute c.read_comma_attribute.new.lexemes (rw c.in-Ok-Some.field-0-is at c.in-Ok-Some.ensures)

pub loop-attribute-preserved : goal.loop-attribute-preserved
loop-attribute-preserved c =
    let h = rw c.in-Ok-Some.field-0-is at c.in-Ok-Some.ensures in
    rw c.in_ok-push-in-Ok-Some.ensures.items (loop_more comma_attribute_of comma_attribute_shortens (attributes_from c.args.first c.args.lexemes.now) c.loop-attribute.attributes.items c.loop-attribute.lexemes c.read_comma_attribute.new.lexemes c.in-Ok-Some.attribute c.loop-attribute.invariant h)

pub returns-in-Ok-None : goal.returns-in-Ok-None
returns-in-Ok-None c =
    let h = rw c.in-Ok-None.field-0-is at c.in-Ok-None.ensures in
    loop_stop comma_attribute_of (attributes_from c.args.first c.args.lexemes.now) c.loop-attribute.attributes.items c.loop-attribute.lexemes c.read_comma_attribute.new.lexemes c.loop-attribute.invariant h.0 h.1

pub returns-in-Err : goal.returns-in-Err
returns-in-Err c = λ n. loop_wrong comma_attribute_of (attributes_from c.args.first c.args.lexemes.now) c.loop-attribute.attributes.items c.loop-attribute.lexemes c.loop-attribute.invariant (c.in-Err.ensures n)
