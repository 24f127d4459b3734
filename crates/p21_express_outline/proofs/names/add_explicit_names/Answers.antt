use Rattle.std.specs.Prelude.{◌++◌, drop, ◌+◌}
use Rattle.p21_express_graph.specs.Rising.{texts_of}
use Rattle.p21_express_outline.specs.Outline.{digest_own_names}
use Rattle.p21_express_outline.proofs.Adding.{adding-more, explicit-first, explicit_names}
use Rattle.p21_express_outline.proofs.names.add_explicit_names.Goals as goal

pub loop-attributes-preserved : goal.loop-attributes-preserved
loop-attributes-preserved c =
    adding-more (texts_of c.loop-attributes.names.items) (explicit_names (drop c.loop-attributes.attributes-index c.args.explicit.now))
    (texts_of c.args.names.now.items ++ explicit_names c.args.explicit.now) (digest_own_names c.attributes-item.result.names.items)
    (texts_of c.add_own_names.new.names.items)
    (explicit_names (drop (c.loop-attributes.attributes-index + 1) c.args.explicit.now)) c.loop-attributes.invariant
    (explicit-first c.args.explicit.now c.loop-attributes.attributes-index c.attributes-item.result c.loop-attributes-test.true
    c.attributes-item.is) (rw c.deref.ensures.value at c.in_ok-add_own_names.ensures)
