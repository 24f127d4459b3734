use Rattle.std.specs.Prelude.{◌≡◌, ◌++◌, ◌∷◌, [], ℕ, List, length, map, take}
use Rattle.std.proofs.Common.{arith, ap, sym, ◌∙◌, subst}
use Rattle.std.proofs.lemmas.List.{length-take-le, take_all}
use Rattle.p21_spec_schema.specs.Schema.{Entity}
use Rattle.p21_express_graph.specs.SchemaContents.{entity}
use Rattle.p21_express_graph.specs.declared.schema_contents.Entity.{Entity as Declared}
use Rattle.p21_express_graph.proofs.Gatherings.{mapped-length}
use Rattle.p21_express_graph.proofs.Lookups.{numbers-more}
use Rattle.p21_schema.specs.Redeclarers.{AddsRedeclarer, AreRedeclarersOf, places_redeclared}
use Rattle.p21_schema.proofs.Owners.{redeclarers-more, redeclarers-none}
use Rattle.p21_schema.proofs.redeclarers.all_redeclarers.Goals as goal

pub loop-number-init : goal.loop-number-init
loop-number-init c = redeclarers-none c.new-redeclarers.result c.new-redeclarers.ensures

pub loop-number-preserved : goal.loop-number-preserved
loop-number-preserved c =
    let xs : List Declared = c.args.entities.now in
    let k : ℕ = c.loop-number.number in
    let x : Declared = c.index-entities-number.result in
    let below = c.loop-number-test.true in
    let long : k ≡ length (map entity (take k xs)) = sym (mapped-length entity (take k xs) ∙ length-take-le k xs (omega (arith, below))) in
    let P : ℕ → Type 0 = λ n. AddsRedeclarer n (places_redeclared (entity x)) c.loop-number.redeclarers c.add_entity.new.self in
    let Q : Entity → Type 0 = λ y. AreRedeclarersOf (map entity (take k xs) ++ y ∷ []) c.add_entity.new.self in
    let R : List Entity → Type 0 = λ es. AreRedeclarersOf es c.add_entity.new.self in
    subst R (sym (numbers-more entity xs k x below))
    (subst Q (ap entity c.index-entities-number.is) (redeclarers-more (map entity (take k xs)) (entity x) c.loop-number.redeclarers
    c.add_entity.new.self c.loop-number.invariant (subst P long c.in_ok-add_entity.ensures)))

pub returns : goal.returns
returns c =
    let P : List Declared → Type 0 = λ xs. AreRedeclarersOf (map entity xs) c.loop-number.redeclarers in
    subst P (take_all c.loop-number.number c.args.entities.now (omega (arith, c.loop-number-test.false))) c.loop-number.invariant
