use Rattle.p21_express_syntax.specs.Declaring.{declaration_of}
use Rattle.p21_express_syntax.specs.Many.{many_of}
use Rattle.p21_express_syntax.specs.Views.{schema_view, declaration_view}
use Rattle.p21_express_syntax.proofs.Counting.{leads_more, leads_stop, leads_wrong, leads_full}
use Rattle.p21_express_syntax.proofs.Schemas.{declaration_shortens}
use Rattle.p21_express_syntax.proofs.schema.read_all.Goals as goal

pub returns-then-is_one_too_many : goal.returns-then-is_one_too_many
returns-then-is_one_too_many c = λ n. leads_full c.args.lexemes.now c.args.name c.loop-alloc.lexemes (schema_view c.loop-alloc.declarations) c.loop-alloc.invariant c.if-is_one_too_many.ensures

pub loop-alloc-smaller : goal.loop-alloc-smaller
loop-alloc-smaller c = declaration_shortens c.loop-alloc.lexemes (declaration_view c.in-Ok-Some.declaration) c.read_declaration.new.lexemes (rw c.in-Ok-Some.field-0-is at c.in-Ok-Some.ensures)

pub loop-alloc-preserved : goal.loop-alloc-preserved
loop-alloc-preserved c =
    let h = rw c.in-Ok-Some.field-0-is at c.in-Ok-Some.ensures in
    leads_more (many_of declaration_of c.args.lexemes.now) c.args.name c.loop-alloc.lexemes c.read_declaration.new.lexemes (schema_view c.loop-alloc.declarations) (schema_view c.add.new.declarations) (declaration_view c.in-Ok-Some.declaration) c.loop-alloc.invariant h c.in_ok-add-in-Ok-Some.ensures
    c.if-is_one_too_many.ensures

pub returns-in-Ok-None : goal.returns-in-Ok-None
returns-in-Ok-None c =
    let h = rw c.in-Ok-None.field-0-is at c.in-Ok-None.ensures in
    leads_stop c.args.lexemes.now c.args.name c.loop-alloc.lexemes c.read_declaration.new.lexemes (schema_view c.loop-alloc.declarations) c.loop-alloc.invariant h.0 h.1

pub returns-in-Err : goal.returns-in-Err
returns-in-Err c = λ n. leads_wrong c.args.lexemes.now c.args.name c.loop-alloc.lexemes (schema_view c.loop-alloc.declarations) c.loop-alloc.invariant (c.in-Err.ensures n)
