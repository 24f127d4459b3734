use Rattle.p21_express_syntax.specs.Declaring.{comma_name_of, names_from}
use Rattle.p21_express_syntax.proofs.Lists.{comma_name_shortens}
use Rattle.p21_express_syntax.proofs.Repeated.{loop_more, loop_stop, loop_wrong}
use Rattle.p21_express_syntax.proofs.names.read_names_from.Goals as goal

pub loop-name-smaller : goal.loop-name-smaller
loop-name-smaller c = comma_name_shortens c.loop-name.lexemes c.in-Ok-Some.name c.read_comma_name.new.lexemes (rw c.in-Ok-Some.field-0-is at c.in-Ok-Some.ensures)

pub loop-name-preserved : goal.loop-name-preserved
loop-name-preserved c =
    let h = rw c.in-Ok-Some.field-0-is at c.in-Ok-Some.ensures in
    rw c.in_ok-push-in-Ok-Some.ensures.items (loop_more comma_name_of comma_name_shortens (names_from c.args.first c.args.lexemes.now) c.loop-name.names.items c.loop-name.lexemes c.read_comma_name.new.lexemes c.in-Ok-Some.name c.loop-name.invariant h)

pub returns-in-Ok-None : goal.returns-in-Ok-None
returns-in-Ok-None c =
    let h = rw c.in-Ok-None.field-0-is at c.in-Ok-None.ensures in
    loop_stop comma_name_of (names_from c.args.first c.args.lexemes.now) c.loop-name.names.items c.loop-name.lexemes c.read_comma_name.new.lexemes c.loop-name.invariant h.0 h.1

pub returns-in-Err : goal.returns-in-Err
returns-in-Err c = λ n. loop_wrong comma_name_of (names_from c.args.first c.args.lexemes.now) c.loop-name.names.items c.loop-name.lexemes c.loop-name.invariant (c.in-Err.ensures n)
