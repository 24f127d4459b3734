use Rattle.std.specs.Prelude.{Option}
use Rattle.std.proofs.Common.{subst}
use Rattle.p21_express_graph.specs.declared.number.EntityId.{EntityId}
use Rattle.p21_express_graph.specs.Meaning.{place, place_type}
use Rattle.p21_mapping.proofs.fitted.type_here.Goals as goal
use Rattle.p21_mapping.proofs.OwnSets.{type-same}
use Rattle.p21_mapping.specs.Shape.{IsOwnClosure}
use Rattle.p21_spec_schema.specs.Order.{order}

pub returns-in-Some : goal.returns-in-Some
returns-in-Some c =
    let P : Option EntityId → Type 0 = λ own. IsOwnClosure c.args.set.now.schema.now own c.args.set.now.entities in
    type-same c.args.set.now.schema.now (order c.args.set.now.schema.now c.in-Some.entity.0) c.args.set.now.entities
    (subst P c.in-Some.is c.requires.own).1 (place c.args.place) (place_type c.own_type.result) c.own_type.ensures
