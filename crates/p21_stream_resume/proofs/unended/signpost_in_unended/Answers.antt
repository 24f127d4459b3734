use Rattle.std.proofs.Common.{Option, arith, sym, subst, take, drop, get_or, ◌+◌}
use Rattle.p21_stream_resume.proofs.EndlessRemarks.{IsAlong, along-all, along-first, along-found, along-on}
use Rattle.p21_stream_resume.specs.Standing.{FindsThere}
use Rattle.p21_stream_resume.specs.declared.signpost.Signpost.{Signpost}
use Rattle.p21_tokens_automaton.specs.declared.mode.Mode.{Mode}
use Rattle.p21_stream_resume.proofs.unended.signpost_in_unended.Goals as goal

pub loop-at-init : goal.loop-at-init
loop-at-init c = λ behind lexed. along-first c.args.statement.now

pub returns-in-Some : goal.returns-in-Some
returns-in-Some c = λ behind lexed.
    let low = c.loop-at-test.true in
    along-found c.args.statement.now behind lexed c.requires c.loop-at.at c.loop-at.mode c.loop-at.last c.in-Some.signpost (omega (arith, low)) (c.loop-at.invariant behind lexed) c.in-Some.ensures.in_text
    (subst (λ (o : Option Signpost). FindsThere (take c.loop-at.at c.args.statement.now) (drop c.loop-at.at c.args.statement.now) o) c.in-Some.is (c.signpost_in_text.ensures.there c.in-Some.ensures.in_text))

pub loop-at-preserved : goal.loop-at-preserved
loop-at-preserved c = λ behind lexed.
    subst (λ (m : Mode). IsAlong c.args.statement.now (c.loop-at.at + 1) m (get_or c.args.statement.now c.loop-at.at 0)) (sym c.behind-mode.ensures)
    (along-on c.args.statement.now behind lexed c.loop-at.at c.loop-at.mode c.loop-at.last c.loop-at-test.true (c.loop-at.invariant behind lexed)
    (λ in_text. subst (λ (o : Option Signpost). FindsThere (take c.loop-at.at c.args.statement.now) (drop c.loop-at.at c.args.statement.now) o) c.in_default.is (c.signpost_in_text.ensures.there in_text)))

pub returns : goal.returns
returns c = λ behind lexed. along-all c.args.statement.now c.loop-at.at c.loop-at.mode c.loop-at.last c.loop-at-test.false (c.loop-at.invariant behind lexed)
