use Rattle.std.proofs.Common.{ℕ, ◌+◌, ◌*◌, ap, ◌∙◌, arith}
use Rattle.p21_tolerance.proofs.Spellings.{digits-more, front-less}
use Rattle.p21_tolerance.proofs.tolerance.with_digits.Goals as goal

pub returns-then-all-ge1000000000000000000-clause-none : goal.returns-then-all-ge1000000000000000000-clause-none
returns-then-all-ge1000000000000000000-clause-none c =
    let digits = c.args.digits.now in
    let i = c.loop-digit.digit-index in
    let next = c.loop-digit.all * 10 + c.from.result in
    let more = digits-more c.args.front i c.loop-digit.all next digits c.loop-digit-test.true c.loop-digit.invariant.all_is
    (ap (λ (d : ℕ). c.loop-digit.all * 10 + d) (c.from.ensures ∙ c.saturating_sub.ensures)) in
    let less = front-less c.args.front (i + 1) digits (omega arith) in
    omega (arith, more, less, c.if-all-ge1000000000000000000.true)

pub loop-digit-preserved : goal.loop-digit-preserved
loop-digit-preserved c =
    let digits = c.args.digits.now in
    let i = c.loop-digit.digit-index in
    let next = c.loop-digit.all * 10 + c.from.result in
    record {
      all_is =
          digits-more c.args.front i c.loop-digit.all next digits c.loop-digit-test.true c.loop-digit.invariant.all_is
          (ap (λ (d : ℕ). c.loop-digit.all * 10 + d) (c.from.ensures ∙ c.saturating_sub.ensures));
      few = c.if-all-ge1000000000000000000.false;
    }
