use Rattle.std.specs.Prelude.{ℕ, List, map, take}
use Rattle.std.proofs.Common.{ap, sym, subst, get_or}
use Rattle.std.proofs.lemmas.List.{take_all}
use Rattle.p21_spec_schema.specs.Schema.{Entity}
use Rattle.p21_express_graph.specs.SchemaContents.{entity}
use Rattle.p21_express_graph.specs.declared.schema_contents.Entity.{Entity as Declared}
use Rattle.p21_express_graph.proofs.Lookups.{numbers-more}
use Rattle.p21_schema.specs.Redeclarers.{ArePlacesOf, ArePlacesOfEach}
use Rattle.p21_schema.proofs.Owners.{each-next, each-none}
use Rattle.p21_schema.proofs.redeclarers.places_of_each.Goals as goal

pub loop-entity-init : goal.loop-entity-init
loop-entity-init c = each-none _ c.in_ok-of_each.ensures.items

pub loop-entity-preserved : goal.loop-entity-preserved
loop-entity-preserved c =
    let xs : List Declared = c.args.entities.now in
    let k : ℕ = c.loop-entity.entity-index in
    let P : List Entity → Type 0 = λ es. ArePlacesOfEach es c.push.new.self.items in
    let Q : Entity → Type 0 = λ x. ArePlacesOf x c.in_ok-places_of_entity.field-0 in
    subst P (sym (numbers-more entity xs k c.entity-item.result c.loop-entity-test.true))
    (each-next (map entity (take k xs)) (entity (get_or xs k c.entity-item.result)) c.loop-entity.of_each.items c.push.new.self.items
    c.in_ok-places_of_entity.field-0 c.loop-entity.invariant (subst Q (ap entity c.entity-item.is) c.in_ok-places_of_entity.ensures)
    c.in_ok-push.ensures.items)

pub returns : goal.returns
returns c =
    let P : List Declared → Type 0 = λ xs. ArePlacesOfEach (map entity xs) c.loop-entity.of_each.items in
    subst P (take_all c.loop-entity.entity-index c.args.entities.now c.loop-entity-test.false) c.loop-entity.invariant
