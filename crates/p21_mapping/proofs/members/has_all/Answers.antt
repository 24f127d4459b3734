use Rattle.std.specs.Prelude.{◌≡◌, true, false, Contains}
use Rattle.std.proofs.Common.{arith, sym, ◌∙◌, get_or}
use Rattle.p21_express_graph.proofs.Gatherings.{numbered-at}
use Rattle.p21_express_graph.proofs.Lookups.{each-number, up-to}
use Rattle.p21_mapping.proofs.members.has_all.Goals as goal

pub returns : goal.returns
returns c = λ f among. each-number (λ e. e.0) record { 0 = 0 } (λ e. Contains c.args.positions.now e) c.args.others.now f
    (λ k below. c.loop-other.invariant k (omega (arith, below, c.loop-other-test.false))) among

pub returns-then-not-has : goal.returns-then-not-has
returns-then-not-has c = (
  (get_or c.args.others.now c.loop-other.other-index record { 0 = 0 }).0,
  numbered-at (λ e. e.0) c.args.others.now
      c.loop-other.other-index record { 0 = 0 } c.loop-other-test.true,
  λ among. let t : true ≡ false = sym (c.has.ensures.1 among)
      ∙ c.if-not-has.true in cc,
)

pub loop-other-preserved : goal.loop-other-preserved
loop-other-preserved c = up-to (λ k. Contains c.args.positions.now (get_or c.args.others.now k record { 0 = 0 }).0) c.loop-other.other-index
    c.loop-other.invariant (c.has.ensures.0 c.if-not-has.false)
