use Rattle.std.proofs.Common.{◌≢◌, Contains, List, subst, ℕ}
use Rattle.p21_express_graph.specs.Orders.{numbers}
use Rattle.p21_express_graph.proofs.Lookups.{leaves-all}
use Rattle.p21_express_graph.specs.declared.number.EntityId.{EntityId}
use Rattle.p21_shorter_instances.proofs.external_set.has_several_leaves.Goals as goal

pub returns : goal.returns
returns c = λ yes.
    let leaf = leaves-all c.args.schema.now (numbers c.args.entities.now) (numbers c.args.entities.now)
    (numbers c.in_ok-leaves.leaves.items) c.in_ok-leaves.ensures in
    let (e, f, differ, first, second) =
    subst (λ (es : List EntityId). (e f : ℕ) × (e ≢ f) × Contains (numbers es) e × Contains (numbers es) f) c.deref.ensures.value
    (c.has_two.ensures yes) in
    (e, f, differ, leaf e first, leaf f second)
