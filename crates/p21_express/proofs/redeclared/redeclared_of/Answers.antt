use Rattle.std.specs.Prelude.{take, drop, ◌+◌, map}
use Rattle.p21_express_outline.specs.Known.{names_of}
use Rattle.p21_express.specs.Explicit.{redeclared_by}
use Rattle.p21_express_outline.specs.Outline.{digest_redeclared_explicit}
use Rattle.p21_express_outline.specs.Redeclarations.{DigestRedeclaredIs}
use Rattle.p21_express_syntax.specs.Views.{attributes_view}
use Rattle.p21_express_graph.specs.SchemaContents.{redeclared}
use Rattle.p21_express_outline.proofs.Finding.{all-refused, more-behind}
use Rattle.p21_express.proofs.Explicit.{in-split, in-taken}
use Rattle.p21_express.proofs.redeclared.redeclared_of.Goals as goal

pub returns-in_err-add_all_redeclared : goal.returns-in_err-add_all_redeclared
returns-in_err-add_all_redeclared c =
    let k = c.loop-attributes.attributes-index in
    let item = c.attributes-item.result in
    all-refused redeclared (DigestRedeclaredIs c.args.hierarchy.now (names_of c.args.known.now) c.args.entity.0)
    (digest_redeclared_explicit (map attributes_view c.args.explicit.now))
    (digest_redeclared_explicit (map attributes_view (take k c.args.explicit.now)))
    (redeclared_by (attributes_view item) item.names.items)
    (digest_redeclared_explicit (map attributes_view (drop (k + 1) c.args.explicit.now))) c.in_err-add_all_redeclared.field-0.0
    c.from_residual.result c.from_residual.ensures.0 c.from_residual.ensures.1
    (in-split c.args.explicit.now k item c.loop-attributes-test.true c.attributes-item.is) c.in_err-add_all_redeclared.ensures

pub loop-attributes-preserved : goal.loop-attributes-preserved
loop-attributes-preserved c =
    let k = c.loop-attributes.attributes-index in
    let item = c.attributes-item.result in
    more-behind redeclared (DigestRedeclaredIs c.args.hierarchy.now (names_of c.args.known.now) c.args.entity.0)
    (digest_redeclared_explicit (map attributes_view (take k c.args.explicit.now)))
    (redeclared_by (attributes_view item) item.names.items)
    (digest_redeclared_explicit (map attributes_view (take (k + 1) c.args.explicit.now)))
    c.loop-attributes.found.items c.add_all_redeclared.new.out.items c.loop-attributes.invariant c.in_ok-add_all_redeclared.ensures
    (in-taken c.args.explicit.now k item c.loop-attributes-test.true c.attributes-item.is)
