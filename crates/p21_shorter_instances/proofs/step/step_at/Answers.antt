use Rattle.std.proofs.Common.{refl, subst, Option, IfSome}
use Rattle.p21_express_graph.proofs.Resolving.{stored-is}
use Rattle.p21_express_graph.specs.DirectRenaming.{ComesTo}
use Rattle.p21_express_graph.specs.Resolved.{IsTypeUse}
use Rattle.p21_express_graph.specs.Meaning.{place, place_type, type_use}
use Rattle.p21_express_graph.specs.declared.place_type.PlaceType.{PlaceType}
use Rattle.p21_express_graph.specs.declared.type_use.TypeUse as code
use Rattle.p21_spec_schema.specs.Order.{order}
use Rattle.p21_spec_schema.specs.PlaceType.{TypeAt, stored_place}
use Rattle.p21_shorter_instances.proofs.step.step_at.Goals as goal

pub reduced_type-requires : goal.reduced_type-requires
reduced_type-requires c =
    let s = c.args.schema.now in
    let type_at = subst (λ (t : PlaceType). TypeAt s (order s c.args.entity.0) (place c.args.place) (place_type t)) c.in-Stored.is
    c.own_type.ensures in
    stored-is s c.holds_together.ensures (order s c.args.entity.0) (place c.args.place) c.in-Stored.optional (type_use c.in-Stored.of.now)
    type_at

pub returns-in-Some : goal.returns-in-Some
returns-in-Some c =
    let s = c.args.schema.now in
    let type = type_use c.in-Stored.of.now in
    let type_at = subst (λ (t : PlaceType). TypeAt s (order s c.args.entity.0) (place c.args.place) (place_type t)) c.in-Stored.is
    c.own_type.ensures in
    let reduced =
    subst (λ (found : Option code.TypeUse). IfSome found (λ last. IsTypeUse s (type_use last) × ComesTo s type (type_use last)))
    c.in-Some.is c.in_ok-found-in-Stored.ensures in
    let at = stored_place c.in-Stored.optional type in
    (at, type_at, c.stored_step.ensures at (type, refl, reduced.0, reduced.1))

pub stored_step-requires : goal.stored_step-requires
stored_step-requires c =
    let s = c.args.schema.now in
    let type = type_use c.in-Stored.of.now in
    (subst (λ (found : Option code.TypeUse). IfSome found (λ last. IsTypeUse s (type_use last) × ComesTo s type (type_use last)))
    c.in-Some.is c.in_ok-found-in-Stored.ensures).0

pub returns-in-None : goal.returns-in-None
returns-in-None c =
    let s = c.args.schema.now in
    let type_at = subst (λ (t : PlaceType). TypeAt s (order s c.args.entity.0) (place c.args.place) (place_type t)) c.in-Stored.is
    c.own_type.ensures in
    (stored_place c.in-Stored.optional (type_use c.in-Stored.of.now), type_at, (c.requires.entity, c.requires.place, type_at))
