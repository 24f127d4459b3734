use Rattle.std.specs.Prelude.{take, drop, ◌+◌, map}
use Rattle.p21_express_outline.specs.Attributes.{own_of}
use Rattle.p21_express_outline.specs.Known.{names_of}
use Rattle.p21_express_outline.specs.Outline.{DigestAttributeIs, digest_own_explicit}
use Rattle.p21_express_syntax.specs.Views.{attributes_view}
use Rattle.p21_express_graph.specs.SchemaContents.{attribute}
use Rattle.p21_express_outline.proofs.Finding.{all-refused, more-behind, own_in-split, own_in-taken}
use Rattle.p21_express_outline.proofs.attributes.own_attributes.Goals as goal

pub returns-in_err-add_attributes : goal.returns-in_err-add_attributes
returns-in_err-add_attributes c =
    let k = c.loop-attributes.attributes-index in
    let item = c.attributes-item.result in
    all-refused attribute (DigestAttributeIs (names_of c.args.known.now)) (digest_own_explicit (map attributes_view c.args.explicit.now))
    (digest_own_explicit (map attributes_view (take k c.args.explicit.now))) (own_of (attributes_view item) item.names.items)
    (digest_own_explicit (map attributes_view (drop (k + 1) c.args.explicit.now))) c.in_err-add_attributes.field-0.0 c.from_residual.result
    c.from_residual.ensures.0 c.from_residual.ensures.1
    (own_in-split c.args.explicit.now k item c.loop-attributes-test.true c.attributes-item.is) c.in_err-add_attributes.ensures

pub loop-attributes-preserved : goal.loop-attributes-preserved
loop-attributes-preserved c =
    let k = c.loop-attributes.attributes-index in
    let item = c.attributes-item.result in
    more-behind attribute (DigestAttributeIs (names_of c.args.known.now))
    (digest_own_explicit (map attributes_view (take k c.args.explicit.now))) (own_of (attributes_view item) item.names.items)
    (digest_own_explicit (map attributes_view (take (k + 1) c.args.explicit.now)))
    c.loop-attributes.found.items c.add_attributes.new.out.items c.loop-attributes.invariant c.in_ok-add_attributes.ensures
    (own_in-taken c.args.explicit.now k item c.loop-attributes-test.true c.attributes-item.is)
