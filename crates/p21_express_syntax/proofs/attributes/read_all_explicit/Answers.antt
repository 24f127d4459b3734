use Rattle.std.proofs.Common.{map}
use Rattle.p21_express_syntax.specs.Declaring.{explicit_of}
use Rattle.p21_express_syntax.specs.Many.{many_of}
use Rattle.p21_express_syntax.specs.Views.{attributes_view}
use Rattle.p21_express_syntax.proofs.Lists.{explicit_shortens}
use Rattle.p21_express_syntax.proofs.Repeated.{loop_first, loop_more, loop_stop, loop_wrong, map_push}
use Rattle.p21_express_syntax.proofs.attributes.read_all_explicit.Goals as goal

pub loop-attributes-smaller : goal.loop-attributes-smaller
loop-attributes-smaller c = explicit_shortens c.loop-attributes.lexemes (attributes_view c.in-Ok-Some.attributes) c.read_explicit.new.lexemes (rw c.in-Ok-Some.field-0-is at c.in-Ok-Some.ensures)

pub loop-attributes-preserved : goal.loop-attributes-preserved
loop-attributes-preserved c =
    let h = rw c.in-Ok-Some.field-0-is at c.in-Ok-Some.ensures in
    rw c.in_ok-push-in-Ok-Some.ensures.items (rw (map_push attributes_view c.loop-attributes.explicit.items c.in-Ok-Some.attributes) (loop_more explicit_of explicit_shortens (many_of explicit_of c.args.lexemes.now) (map attributes_view c.loop-attributes.explicit.items) c.loop-attributes.lexemes c.read_explicit.new.lexemes (attributes_view c.in-Ok-Some.attributes) c.loop-attributes.invariant h))

pub returns-in-Ok-None : goal.returns-in-Ok-None
returns-in-Ok-None c =
    let h = rw c.in-Ok-None.field-0-is at c.in-Ok-None.ensures in
    loop_stop explicit_of (many_of explicit_of c.args.lexemes.now) (map attributes_view c.loop-attributes.explicit.items) c.loop-attributes.lexemes c.read_explicit.new.lexemes c.loop-attributes.invariant h.0 h.1

pub returns-in-Err : goal.returns-in-Err
returns-in-Err c = λ n. loop_wrong explicit_of (many_of explicit_of c.args.lexemes.now) (map attributes_view c.loop-attributes.explicit.items) c.loop-attributes.lexemes c.loop-attributes.invariant (c.in-Err.ensures n)

pub loop-attributes-init : goal.loop-attributes-init
loop-attributes-init c = rw c.new-explicit.ensures.items (loop_first explicit_of c.args.lexemes.now)
