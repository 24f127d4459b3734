use Rattle.p21_express_syntax.specs.Declaring.{derived_of}
use Rattle.p21_express_syntax.specs.Many.{many_of}
use Rattle.p21_express_syntax.proofs.Lists.{derived_shortens}
use Rattle.p21_express_syntax.proofs.Repeated.{loop_first, loop_more, loop_stop, loop_wrong}
use Rattle.p21_express_syntax.proofs.attributes.read_all_derived.Goals as goal

pub loop-attribute-smaller : goal.loop-attribute-smaller
loop-attribute-smaller c = derived_shortens c.loop-attribute.lexemes c.in-Ok-Some.attribute c.read_derived.new.lexemes (rw c.in-Ok-Some.field-0-is at c.in-Ok-Some.ensures)

pub loop-attribute-preserved : goal.loop-attribute-preserved
loop-attribute-preserved c =
    let h = rw c.in-Ok-Some.field-0-is at c.in-Ok-Some.ensures in
    rw c.in_ok-push-in-Ok-Some.ensures.items (loop_more derived_of derived_shortens (many_of derived_of c.args.lexemes.now) c.loop-attribute.derived.items c.loop-attribute.lexemes c.read_derived.new.lexemes c.in-Ok-Some.attribute c.loop-attribute.invariant h)

pub returns-in-Ok-None : goal.returns-in-Ok-None
returns-in-Ok-None c =
    let h = rw c.in-Ok-None.field-0-is at c.in-Ok-None.ensures in
    loop_stop derived_of (many_of derived_of c.args.lexemes.now) c.loop-attribute.derived.items c.loop-attribute.lexemes c.read_derived.new.lexemes c.loop-attribute.invariant h.0 h.1

pub returns-in-Err : goal.returns-in-Err
returns-in-Err c = λ n. loop_wrong derived_of (many_of derived_of c.args.lexemes.now) c.loop-attribute.derived.items c.loop-attribute.lexemes c.loop-attribute.invariant (c.in-Err.ensures n)

pub loop-attribute-init : goal.loop-attribute-init
loop-attribute-init c = rw c.new-derived.ensures.items (loop_first derived_of c.args.lexemes.now)
