use Rattle.std.proofs.Common.{◌∙◌, arith}
use Rattle.p21_stream.proofs.Feeding.{loop-consumed, loop-goes_on, loop-refused, loop-short, loop-whole}
use Rattle.p21_stream.proofs.read.feed_all.Goals as goal

pub returns-in-Err-clause-err : goal.returns-in-Err-clause-err
returns-in-Err-clause-err g c = loop-refused _ _ _ c.args.session.now c.loop-count.session _ _ _ c.loop-count.invariant.fed
    c.in-Err.ensures.err

pub returns-in-Err-clause-consumed : goal.returns-in-Err-clause-consumed
returns-in-Err-clause-consumed g c = loop-consumed _ _ _ c.args.session.now c.loop-count.session _ _ c.requires.most
    c.loop-count.invariant.fed c.in-Err.ensures.consumed

pub returns-then-count-eq0-clause-ok : goal.returns-then-count-eq0-clause-ok
returns-then-count-eq0-clause-ok g c = loop-whole _ _ _ c.args.session.now c.loop-count.session _ _ _ _ c.loop-count.invariant.fed
    c.in-Ok.ensures.ok c.if-count-eq0.true

pub returns-then-count-eq0-clause-consumed : goal.returns-then-count-eq0-clause-consumed
returns-then-count-eq0-clause-consumed g c = loop-consumed _ _ _ c.args.session.now c.loop-count.session _ _ c.requires.most
    c.loop-count.invariant.fed c.in-Ok.ensures.consumed

pub overflow_sub-left : goal.overflow_sub-left
overflow_sub-left g c =
    let short = loop-short _ _ _ c.args.session.now c.loop-count.session _ _ _ _ c.requires.most c.loop-count.invariant.fed
    c.in-Ok.ensures.schema c.in-Ok.ensures.ok in
    omega arith

pub loop-count-smaller : goal.loop-count-smaller
loop-count-smaller g c =
    let short = loop-short _ _ _ c.args.session.now c.loop-count.session _ _ _ _ c.requires.most c.loop-count.invariant.fed
    c.in-Ok.ensures.schema c.in-Ok.ensures.ok in
    let some = c.if-count-eq0.false in
    omega arith

pub loop-count-preserved : goal.loop-count-preserved
loop-count-preserved g c =
    let short = loop-short _ _ _ c.args.session.now c.loop-count.session _ _ _ _ c.requires.most c.loop-count.invariant.fed
    c.in-Ok.ensures.schema c.in-Ok.ensures.ok in
    record {
      fed = loop-goes_on _ _ _ c.args.session.now c.loop-count.session _ _ _ _ short c.loop-count.invariant.fed c.in-Ok.ensures.schema
          c.in-Ok.ensures.ok;
      moved = let moved = c.in-Ok.ensures.moved in let before = c.loop-count.invariant.moved in omega arith;
      lines = λ lines keeps. c.in-Ok.ensures.lines lines (c.loop-count.invariant.lines lines keeps);
      failures = c.in-Ok.ensures.read ∙ c.loop-count.invariant.failures;
    }

pub returns-in-Err-clause-lines : goal.returns-in-Err-clause-lines
returns-in-Err-clause-lines g c = λ lines keeps. c.in-Err.ensures.lines lines (c.loop-count.invariant.lines lines keeps)

pub returns-then-count-eq0-clause-lines : goal.returns-then-count-eq0-clause-lines
returns-then-count-eq0-clause-lines g c = λ lines keeps. c.in-Ok.ensures.lines lines (c.loop-count.invariant.lines lines keeps)
