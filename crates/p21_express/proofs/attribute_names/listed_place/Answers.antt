use Rattle.std.specs.Prelude.{◌≡◌, true, false}
use Rattle.std.proofs.Common.{arith, ◌∙◌}
use Rattle.std.proofs.lemmas.Slice.Eq.{bytes_eq-Decides}
use Rattle.p21_spec_schema.specs.Schema.{PlaceNamed}
use Rattle.p21_express_graph.proofs.Lookups.{up-to}
use Rattle.p21_express.proofs.PlaceLemmas.{name-one, no-own}
use Rattle.p21_express.proofs.attribute_names.listed_place.Goals as goal

pub loop-index-preserved : goal.loop-index-preserved
loop-index-preserved c = up-to (λ k. PlaceNamed c.args.hierarchy.now (record { entity = c.args.entity.0; index = k }) c.args.name.now → ⊥)
    c.loop-index.index c.loop-index.invariant
    (λ named.
    let same = name-one c.args.hierarchy.now (record { entity = c.args.entity.0; index = c.loop-index.index }) c.place_name.result.now
    c.args.name.now c.place_name.ensures named in
    let told : false ≡ true = c.if-eq.ensures ∙ (bytes_eq-Decides c.place_name.result.now c.args.name.now).1 same in
    cc)

pub returns : goal.returns
returns c = no-own c.args.hierarchy.now c.args.entity.0 c.args.name.now c.loop-index.index
    (omega (arith, c.attribute_count-count.ensures, c.loop-index-test.false, c.loop-index.auto.index-end)) c.loop-index.invariant
