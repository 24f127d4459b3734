use Rattle.std.proofs.Common.{arith, sym, ap, take, ℕ}
use Rattle.std.proofs.lemmas.List.{length-take-le}
use Rattle.p21_scan.proofs.DigitRuns.{no_end_zero, zeros_more}
use Rattle.p21_scan.proofs.digits.without_trailing_zeros.Goals as goal
use Rattle.p21_scan.proofs.digits.without_trailing_zeros.Goals.{then-loop-kept-test+else-digits-kept-eq48, else-loop-kept-test}

pub loop-kept-preserved : goal.loop-kept-preserved
loop-kept-preserved c = record {
  shorter = omega arith;
  same = zeros_more c.args.digits.now c.loop-kept.kept (omega arith) (omega arith) c.if-digits-kept-eq48.true c.loop-kept.invariant.same;
}

pub returns : goal.returns
returns c =
    let digits = c.args.digits.now in
    let kept = c.loop-kept.kept in
    let short = length-take-le kept digits c.loop-kept.invariant.shorter in
    record {
      front = ap (λ (k : ℕ). take k digits) (sym short);
      shorter = omega (arith, short);
      last =
          no_end_zero digits kept c.requires c.loop-kept.invariant.shorter (λ some. elim c.loop-kept-test.branch [
            | then-loop-kept-test+else-digits-kept-eq48 w ↦ w.if-digits-kept-eq48.false
            | else-loop-kept-test w ↦ absurd (omega arith)
          ]);
      same = rw short c.loop-kept.invariant.same;
    }
