use Rattle.std.specs.Prelude.{◌≡◌, ◌++◌, length, map, refl}
use Rattle.std.proofs.Common.{arith, ap, ◌∙◌}
use Rattle.p21_express_graph.specs.Meaning.{place}
use Rattle.p21_spec_schema.specs.Schema.{attributes_of}
use Rattle.p21_express_graph.specs.Lookups.{places_from}
use Rattle.p21_express_graph.proofs.Lookups.{place-more, own-places-are}
use Rattle.p21_schema.proofs.schema.Schema.push_own_places.Goals as goal

pub loop-index-preserved : goal.loop-index-preserved
loop-index-preserved c = place-more place c.loop-index.found.items c.push.new.self.items
    record { entity = c.args.entity; index = c.loop-index.index } (map place c.args.found.now.items) c.args.entity.0 c.loop-index.index
    c.in_ok-push.ensures.items refl c.loop-index.invariant

pub returns : goal.returns
returns c =
    let end : c.loop-index.index ≡ length (attributes_of c.args.self.now c.args.entity.0) =
    omega (arith, c.attribute_count-count.ensures, c.loop-index-test.false, c.loop-index.auto.index-end) in
    c.loop-index.invariant ∙ ap (λ ps. map place c.args.found.now.items ++ ps)
    (ap (places_from c.args.entity.0 0) end ∙ own-places-are c.args.self.now c.args.entity.0)
