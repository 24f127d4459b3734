use Rattle.std.specs.Prelude.{ℕ, List}
use Rattle.std.proofs.Common.{subst, sym}
use Rattle.p21_express_graph.specs.Lookups.{AreEntities}
use Rattle.p21_express_graph.specs.Orders.{numbers}
use Rattle.p21_express_graph.specs.declared.number.EntityId.{EntityId}
use Rattle.p21_express_graph.specs.Meaning.{place, place_type}
use Rattle.p21_mapping.proofs.Redeclaring.{members-within, type-all}
use Rattle.p21_mapping.proofs.among.type_among.Goals as goal
use Rattle.p21_mapping.specs.Redeclaring.{AreThoseAmong}
use Rattle.p21_spec_schema.specs.PlaceType.{TypeAt}

pub type_at-requires-clause-entities : goal.type_at-requires-clause-entities
type_at-requires-clause-entities c = subst (AreEntities c.args.schema.now) (sym c.entities-then-redeclarers-entities.ensures)
    c.requires.entities

pub returns-then-redeclarers-entities : goal.returns-then-redeclarers-entities
returns-then-redeclarers-entities c = subst (λ (es : List ℕ). TypeAt c.args.schema.now es (place c.args.place)
    (place_type c.type_at.result)) c.entities-then-redeclarers-entities.ensures c.type_at.ensures

pub type_at-requires-2-clause-entities : goal.type_at-requires-2-clause-entities
type_at-requires-2-clause-entities c =
    subst (λ (es : List EntityId). AreEntities c.args.schema.now (numbers es)) (sym c.deref.ensures.value)
    (members-within c.args.schema.now c.args.entities.now (numbers c.redeclarers_of-redeclarers.result.now)
    (numbers c.in_ok-members.members.items) c.requires.entities c.in_ok-members.ensures)

pub returns : goal.returns
returns c =
    let are : AreThoseAmong c.args.entities.now (numbers c.redeclarers_of-redeclarers.result.now) (numbers c.deref.result.now) =
    subst (λ (es : List EntityId). AreThoseAmong c.args.entities.now (numbers c.redeclarers_of-redeclarers.result.now) (numbers es))
    (sym c.deref.ensures.value) c.in_ok-members.ensures in
    type-all c.args.schema.now c.args.entities.now (numbers c.redeclarers_of-redeclarers.result.now) (numbers c.deref.result.now)
    (place c.args.place) c.redeclarers_of-redeclarers.ensures.all are (place_type c.type_at-2.result) c.type_at-2.ensures
