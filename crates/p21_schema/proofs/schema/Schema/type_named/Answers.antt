use Rattle.std.specs.Prelude.{◌<◌, ◌^◌}
use Rattle.std.proofs.Common.{rules, sym, subst}
use Rattle.p21_express_graph.specs.Resolved.{HoldsTogether}
use Rattle.p21_express_graph.proofs.Naming.{named, unnamed, type-fits}
use Rattle.p21_schema.proofs.schema.Schema.type_named.Goals as goal

pub returns-in-None : goal.returns-in-None
returns-in-None c = rw (← c.contents.ensures.value)
    (unnamed (λ x. x.name) _ c.args.name.now (rw (← c.contents.ensures.named.types_are) c.in-None.ensures))

pub overflow_cast-result : goal.overflow_cast-result
overflow_cast-result c =
    let (x, is, _) = named (λ x. x.name) _ c.in-Some.at c.args.name.now (rw (← c.contents.ensures.named.types_are) c.in-Some.ensures) in
    let below : c.in-Some.at < 2 ^ 32 = type-fits _ (subst HoldsTogether (sym c.contents.ensures.value) c.holds_together.ensures)
    c.in-Some.at x is in
    search (rules, below)

pub returns-in-Some : goal.returns-in-Some
returns-in-Some c = rw (← c.contents.ensures.value)
    (named (λ x. x.name) _ c.in-Some.at c.args.name.now (rw (← c.contents.ensures.named.types_are) c.in-Some.ensures))
