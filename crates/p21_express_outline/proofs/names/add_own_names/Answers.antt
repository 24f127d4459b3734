use Rattle.std.specs.Prelude.{[], ◌∷◌, ◌++◌, drop, ◌+◌}
use Rattle.p21_express_graph.specs.Rising.{texts_of}
use Rattle.p21_express_outline.specs.Outline.{digest_own_names}
use Rattle.p21_express_outline.proofs.Adding.{adding-more, own-at}
use Rattle.p21_express_outline.proofs.names.add_own_names.Goals as goal

pub loop-attribute-preserved : goal.loop-attribute-preserved
loop-attribute-preserved c =
    adding-more (texts_of c.loop-attribute.names.items) (digest_own_names (drop c.loop-attribute.attribute-index c.args.attributes.now))
    (texts_of c.args.names.now.items ++ digest_own_names c.args.attributes.now) (digest_own_names (c.attribute-item.result ∷ []))
    (texts_of c.add_own_name.new.names.items)
    (digest_own_names (drop (c.loop-attribute.attribute-index + 1) c.args.attributes.now)) c.loop-attribute.invariant
    (own-at c.args.attributes.now c.loop-attribute.attribute-index c.attribute-item.result c.loop-attribute-test.true
    c.attribute-item.is) c.in_ok-add_own_name.ensures
