use Rattle.std.specs.Prelude.{◌<◌, ◌^◌}
use Rattle.std.proofs.Common.{rules}
use Rattle.p21_express_graph.proofs.Naming.{named, unnamed, entity-fits}
use Rattle.p21_schema.proofs.hierarchy.Hierarchy.entity.Goals as goal

pub returns-in-None : goal.returns-in-None
returns-in-None c = rw (← c.self.view_is) (unnamed (λ x. x.name) _ c.args.name.now
    (rw (← c.self.invariant.1.entities_are) c.in-None.ensures))

pub overflow_cast-result : goal.overflow_cast-result
overflow_cast-result c = let (x, is, _) = named (λ x. x.name) _ c.in-Some.at c.args.name.now
    (rw (← c.self.invariant.1.entities_are) c.in-Some.ensures) in let below : c.in-Some.at < 2 ^ 32 =
    entity-fits _ c.self.invariant.0 c.in-Some.at x is in search (rules, below)

pub returns-in-Some : goal.returns-in-Some
returns-in-Some c = rw (← c.self.view_is) (named (λ x. x.name) _ c.in-Some.at c.args.name.now
    (rw (← c.self.invariant.1.entities_are) c.in-Some.ensures))
