use Rattle.std.proofs.Common.{arith}
use Rattle.p21_express.proofs.Keys.{seen-none, seen-more, seen-twice, seen-all}
use Rattle.p21_express.proofs.distinct.check_once.Goals as goal

pub returns-then-not-new : goal.returns-then-not-new
returns-then-not-new c = λ other. seen-twice c.args.places.now c.loop-place.place-index c.loop-place.seen.keys c.in_ok-new.new
    c.loop-place-test.true c.loop-place.invariant c.in_ok-new.ensures.added c.if-not-new.true

pub loop-place-preserved : goal.loop-place-preserved
loop-place-preserved c = seen-more c.args.places.now c.loop-place.place-index c.loop-place.seen.keys c.insert_full.new.self.keys
    c.in_ok-new.new c.loop-place-test.true c.loop-place.invariant c.in_ok-new.ensures.added c.if-not-new.false c.in_ok-new.ensures.keys
    c.in_ok-new.ensures.unique

pub loop-place-init : goal.loop-place-init
loop-place-init c = seen-none c.new-seen.result.keys c.new-seen.ensures.empty c.new-seen.ensures.unique

pub returns : goal.returns
returns c = seen-all c.args.places.now c.loop-place.place-index c.loop-place.seen.keys (omega (arith, c.loop-place-test.false))
    c.loop-place.invariant
