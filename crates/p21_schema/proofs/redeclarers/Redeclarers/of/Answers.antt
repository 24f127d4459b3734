use Rattle.std.proofs.Common.{ap, sym, ◌∙◌}
use Rattle.p21_express_graph.specs.Orders.{numbers}
use Rattle.p21_schema.specs.Redeclarers.{items_at}
use Rattle.p21_schema.proofs.ListsAt.{items-past, items-there}
use Rattle.p21_schema.proofs.redeclarers.Redeclarers.of.Goals as goal

pub returns-in-Some : goal.returns-in-Some
returns-in-Some c =
    let owner = c.args.place.entity.0 in
    let index = c.args.place.index in
    ap numbers (c.entities_at.ensures ∙ ap (λ lists. items_at lists index)
    (c.deref-in-Some.ensures.value ∙ sym (items-there c.deref.result.now owner c.in-Some.places.now c.in-Some.ensures.lookup.3.0
    c.in-Some.ensures.lookup.1) ∙ ap (λ owners. items_at owners owner) c.deref.ensures.value))

pub returns-in-None : goal.returns-in-None
returns-in-None c = ap (λ lists. numbers (items_at lists c.args.place.index))
    (sym (ap (λ owners. items_at owners c.args.place.entity.0) (sym c.deref.ensures.value)
    ∙ items-past c.deref.result.now c.args.place.entity.0 c.in-None.ensures.lookup.3))
