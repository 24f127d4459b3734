use Rattle.std.proofs.Common.{arith, ◌∙◌}
use Rattle.p21_express_outline.specs.Known.{names_of}
use Rattle.p21_express.proofs.Whole.{all-found, one-more, one-refused}
use Rattle.p21_express.proofs.redeclaring.all_redeclarations.Goals as goal

pub returns-in_err-redeclarations_of : goal.returns-in_err-redeclarations_of
returns-in_err-redeclarations_of c =
    one-refused c.args.hierarchy.now (names_of c.args.known.now) c.args.declared.now c.loop-own.own-index _ c.own-item.result
    c.in_err-redeclarations_of.field-0.0 c.from_residual-in_err-redeclarations_of.result
    c.from_residual-in_err-redeclarations_of.ensures.0 c.from_residual-in_err-redeclarations_of.ensures.1 c.loop-own-test.true
    c.own-item.is
    (c.len.ensures ∙ c.loop-own.found.ok.0 ∙ c.loop-own.invariant.0) c.in_err-redeclarations_of.ensures

pub loop-own-preserved : goal.loop-own-preserved
loop-own-preserved c = (
  omega (arith, c.in_ok-push.ensures.len, c.loop-own.invariant.0),
  one-more c.args.hierarchy.now (names_of c.args.known.now) c.args.declared.now c.loop-own.own-index _ c.own-item.result
      c.loop-own.found.items c.push.new.self.items c.in_ok-redeclarations_of.field-0 c.loop-own-test.true c.own-item.is
      (c.len.ensures ∙ c.loop-own.found.ok.0 ∙ c.loop-own.invariant.0) c.loop-own.invariant.1
      c.in_ok-redeclarations_of.ensures c.in_ok-push.ensures.items,
)

pub returns : goal.returns
returns c = all-found c.args.hierarchy.now (names_of c.args.known.now) c.args.declared.now c.loop-own.own-index c.loop-own.found.items
    (omega (arith, c.loop-own-test.false)) c.loop-own.invariant.1
