use Rattle.std.proofs.Common.{arith}
use Rattle.p21_express_outline.specs.Known.{names_of}
use Rattle.p21_express_outline.specs.Outline.{TypeOutline}
use Rattle.p21_express_syntax.specs.Views.{defined_view}
use Rattle.p21_express_graph.specs.SchemaContents.{defined}
use Rattle.p21_express_outline.proofs.Finding.{each-refused_mapped, each-whole, zip-more}
use Rattle.p21_express_outline.proofs.defined.resolve_types.Goals as goal

pub returns-in_err-resolve_defined : goal.returns-in_err-resolve_defined
returns-in_err-resolve_defined c =
    each-refused_mapped defined (TypeOutline (names_of c.args.known.now)) defined_view c.args.declared.now c.loop-defined.defined-index
    c.defined-item.result c.in_err-resolve_defined.field-0.0 c.from_residual.result c.from_residual.ensures.0 c.from_residual.ensures.1
    c.loop-defined-test.true c.defined-item.is
    c.in_err-resolve_defined.ensures

pub loop-defined-preserved : goal.loop-defined-preserved
loop-defined-preserved c =
    zip-more defined (λ x found. TypeOutline (names_of c.args.known.now) (defined_view x) found) c.args.declared.now
    c.loop-defined.defined-index c.defined-item.result c.loop-defined.found.items c.push.new.self.items c.in_ok-resolve_defined.field-0
    c.loop-defined-test.true c.defined-item.is c.loop-defined.invariant
    c.in_ok-resolve_defined.ensures c.in_ok-push.ensures.items

pub returns : goal.returns
returns c = each-whole defined (TypeOutline (names_of c.args.known.now)) defined_view c.args.declared.now c.loop-defined.defined-index
    c.loop-defined.found.items (omega (arith, c.loop-defined-test.false)) c.loop-defined.invariant
