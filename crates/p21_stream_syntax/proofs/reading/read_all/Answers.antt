use Rattle.std.proofs.Common.{◌∙◌, arith, refl}
use Rattle.p21_stream_syntax.proofs.Feeding.{loop-between, loop-consumed, loop-goes_on, loop-refused, loop-short, loop-whole}
use Rattle.p21_stream_syntax.proofs.reading.read_all.Goals as goal

pub returns-in-Err-clause-err : goal.returns-in-Err-clause-err
returns-in-Err-clause-err g c = loop-refused _ _ _ _ c.loop-count.walk _ _ _ c.loop-count.invariant.so_far c.in-Err.ensures.err

pub returns-in-Err-clause-consumed : goal.returns-in-Err-clause-consumed
returns-in-Err-clause-consumed g c = loop-consumed _ _ _ _ c.loop-count.walk _ _ refl c.loop-count.invariant.so_far
    c.in-Err.ensures.consumed

pub returns-then-count-eq0-clause-ok : goal.returns-then-count-eq0-clause-ok
returns-then-count-eq0-clause-ok g c = loop-whole _ _ _ _ c.loop-count.walk c.read_more.new.walk _ _ _ c.loop-count.invariant.so_far
    c.in-Ok.ensures.ok c.if-count-eq0.true

pub returns-then-count-eq0-clause-consumed : goal.returns-then-count-eq0-clause-consumed
returns-then-count-eq0-clause-consumed g c = loop-consumed _ _ _ _ c.loop-count.walk _ _ refl c.loop-count.invariant.so_far
    c.in-Ok.ensures.consumed

pub read_more-requires-clause-live : goal.read_more-requires-clause-live
read_more-requires-clause-live g c = loop-between _ _ _ c.loop-count.walk _ _ c.loop-count.invariant.so_far

pub overflow_sub-left : goal.overflow_sub-left
overflow_sub-left g c =
    let short = loop-short _ _ _ _ c.loop-count.walk c.read_more.new.walk _ _ _ refl c.loop-count.invariant.so_far c.in-Ok.ensures.ok in
    omega arith

pub loop-count-smaller : goal.loop-count-smaller
loop-count-smaller g c =
    let short = loop-short _ _ _ _ c.loop-count.walk c.read_more.new.walk _ _ _ refl c.loop-count.invariant.so_far c.in-Ok.ensures.ok in
    let some = c.if-count-eq0.false in
    omega arith

pub loop-count-preserved : goal.loop-count-preserved
loop-count-preserved g c =
    let short = loop-short _ _ _ _ c.loop-count.walk c.read_more.new.walk _ _ _ refl c.loop-count.invariant.so_far c.in-Ok.ensures.ok in
    record {
      so_far = loop-goes_on _ _ _ _ c.loop-count.walk c.read_more.new.walk _ _ _ short c.loop-count.invariant.so_far c.in-Ok.ensures.ok;
      moved = let moved = c.in-Ok.ensures.moved in let before = c.loop-count.invariant.moved in omega arith;
      failures = c.in-Ok.ensures.read ∙ c.loop-count.invariant.failures;
    }
