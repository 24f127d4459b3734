use Rattle.std.proofs.Common.{◌≡◌, sym, subst, ℕ, ◌+◌, arith, false, slice_index}
use lib.Count.{count_trailing_zeros}
use Rattle.p21_scan.specs.Class.{AreOfClass, is_of_class}
use Rattle.p21_scan.proofs.Rows.{all-more, some-more, some-ends, few-more, few-ends}
use Rattle.p21_scan.proofs.wide.long_prefix.Goals as goal

pub loop-count-preserved : goal.loop-count-preserved
loop-count-preserved c = all-more c.args.class c.args.bytes.now c.loop-count.count c.loop-count.invariant (omega arith) (omega (arith, c.others-found.ensures))

pub returns-then-found-ne0-clause-are : goal.returns-then-found-ne0-clause-are
returns-then-found-ne0-clause-are c =
    subst (λ (m : ℕ). AreOfClass c.args.class c.args.bytes.now (c.loop-count.count + count_trailing_zeros 64 m)) (sym c.others-found.ensures)
    (some-more c.args.class c.args.bytes.now c.loop-count.count c.loop-count.invariant (omega arith) (omega (arith, c.others-found.ensures)))

pub returns-then-found-ne0-clause-ends : goal.returns-then-found-ne0-clause-ends
returns-then-found-ne0-clause-ends c _ =
    subst (λ (m : ℕ). is_of_class c.args.class (slice_index c.args.bytes.now (c.loop-count.count + count_trailing_zeros 64 m)) ≡ false) (sym c.others-found.ensures)
    (some-ends c.args.class c.args.bytes.now c.loop-count.count c.loop-count.invariant (omega arith) (omega (arith, c.others-found.ensures)))

pub returns-clause-are : goal.returns-clause-are
returns-clause-are c = few-more c.args.class c.args.bytes.now c.loop-count.count c.loop-count.invariant c.short_prefix.result c.short_prefix.ensures.are

pub returns-clause-ends : goal.returns-clause-ends
returns-clause-ends c = few-ends c.args.class c.args.bytes.now c.loop-count.count c.loop-count.invariant c.short_prefix.result c.short_prefix.ensures.ends
