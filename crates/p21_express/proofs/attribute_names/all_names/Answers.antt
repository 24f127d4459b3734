use Rattle.std.specs.Prelude.{map, refl}
use Rattle.std.proofs.Common.{arith, ap, ◌∙◌}
use Rattle.std.proofs.lemmas.List.{take_all}
use Rattle.p21_spec_schema.specs.Schema.{attributes_of}
use Rattle.p21_express_graph.specs.Rising.{texts_of}
use Rattle.p21_express_outline.proofs.Adding.{text-more}
use Rattle.p21_express.proofs.PlaceLemmas.{kept-names, name-next}
use Rattle.p21_express.proofs.attribute_names.all_names.Goals as goal

pub loop-index-preserved : goal.loop-index-preserved
loop-index-preserved c =
    name-next c.args.hierarchy.now c.args.entity.0 c.loop-index.index
    (omega (arith, c.loop-index-test.true, c.attribute_count-index-end.ensures)) c.place_name.result.now c.place_name.ensures
    (texts_of c.loop-index.names.items) (texts_of c.push.new.self.items)
    c.loop-index.invariant (text-more c.loop-index.names.items c.push.new.self.items c.place_name.result c.place_name.result.now
    c.in_ok-push.ensures.items refl)

pub returns : goal.returns
returns c =
    kept-names c.args.hierarchy.now c.args.entity.0 (texts_of c.deref.result.now) c.of.result
    (ap texts_of c.deref.ensures.value ∙ c.loop-index.invariant
    ∙ ap (map (λ a. a.name)) (take_all c.loop-index.index (attributes_of c.args.hierarchy.now c.args.entity.0)
    (omega (arith, c.loop-index-test.false, c.attribute_count-index-end.ensures, c.loop-index.auto.index-end))))
    c.of.ensures.names
