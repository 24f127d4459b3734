use Rattle.std.specs.Prelude.{◌+◌}
use Rattle.std.proofs.Common.{arith}
use Rattle.p21_numbering.proofs.GivenNames.{get-more, numbers-given}
use Rattle.p21_numbering.proofs.numbers.numbers_in.Goals as goal

pub loop-k-preserved : goal.loop-k-preserved
loop-k-preserved c = get-more c.loop-k.numbers c.insert.new.self c.args.order.now (λ j. j + 1) c.loop-k.k c.loop-k-test.true
    c.in_ok-insert.ensures.updates c.loop-k.invariant

pub returns : goal.returns
returns c once n among = numbers-given c.loop-k.numbers c.args.order.now c.loop-k.k c.loop-k.invariant (omega (arith, c.loop-k-test.false))
    once n among
