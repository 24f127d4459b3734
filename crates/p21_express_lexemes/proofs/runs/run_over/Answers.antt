use Rattle.std.proofs.Common.{arith}
use Rattle.p21_express_lexemes.specs.Runs.{marks}
use Rattle.p21_express_lexemes.proofs.RunSteps.{after_close, after_open, after_plain, no_end, run_done, took_shorter, took_none, advanced_shorter}
use Rattle.p21_express_lexemes.proofs.runs.run_over.Goals as goal

pub loop-depth-preserved-then-take : goal.loop-depth-preserved-then-take
loop-depth-preserved-then-take c =
    let t = rw c.if-take.true at c.take.ensures in
    let shorter = took_shorter (marks c.args.closes) c.loop-depth.lexemes c.take.new.self t in
    record {
      leads = after_close (marks c.args.opens) (marks c.args.closes) c.args.lexemes.now c.loop-depth.lexemes c.take.new.self c.loop-depth.depth c.loop-depth.invariant.leads c.loop-depth-test.true t;
      few = omega arith;
    }

pub loop-depth-preserved-then-take-2 : goal.loop-depth-preserved-then-take-2
loop-depth-preserved-then-take-2 c =
    let n = rw c.if-take.false at c.take.ensures in
    let t = rw c.if-take-2.true at c.take-else-take.ensures in
    let same = took_none (marks c.args.closes) c.loop-depth.lexemes c.take.new.self n in
    let shorter = took_shorter (marks c.args.opens) c.take.new.self c.take-else-take.new.self t in
    record {
      leads = after_open (marks c.args.opens) (marks c.args.closes) c.args.lexemes.now c.loop-depth.lexemes c.take.new.self c.take-else-take.new.self c.loop-depth.depth c.loop-depth.invariant.leads c.loop-depth-test.true n t;
      few = omega arith;
    }

pub loop-depth-preserved : goal.loop-depth-preserved
loop-depth-preserved c =
    let n = rw c.if-take.false at c.take.ensures in
    let m = rw c.if-take-2.false at c.take-else-take.ensures in
    let a = rw c.if-not-advance.false at c.advance.ensures in
    let same = took_none (marks c.args.closes) c.loop-depth.lexemes c.take.new.self n in
    let again = took_none (marks c.args.opens) c.take.new.self c.take-else-take.new.self m in
    let shorter = advanced_shorter c.take-else-take.new.self c.advance.new.self a in
    record {
      leads = after_plain (marks c.args.opens) (marks c.args.closes) c.args.lexemes.now c.loop-depth.lexemes c.take.new.self c.take-else-take.new.self c.advance.new.self c.loop-depth.depth c.loop-depth.invariant.leads c.loop-depth-test.true n m a;
      few = omega arith;
    }

pub returns-then-not-advance : goal.returns-then-not-advance
returns-then-not-advance c =
    let n = rw c.if-take.false at c.take.ensures in
    let m = rw c.if-take-2.false at c.take-else-take.ensures in
    let a = rw c.if-not-advance.true at c.advance.ensures in
    no_end (marks c.args.opens) (marks c.args.closes) c.args.lexemes.now c.loop-depth.lexemes c.take.new.self c.take-else-take.new.self c.advance.new.self c.loop-depth.depth c.loop-depth.invariant.leads c.loop-depth-test.true n m a

pub returns : goal.returns
returns c = run_done (marks c.args.opens) (marks c.args.closes) c.args.lexemes.now c.loop-depth.lexemes c.loop-depth.depth c.loop-depth.invariant.leads (omega arith)
