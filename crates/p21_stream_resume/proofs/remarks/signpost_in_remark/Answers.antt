use Rattle.std.proofs.Common.{ℕ, Option, ap, get_or, subst, sym, ◌+◌, ◌∙◌}
use Rattle.p21_stream_resume.proofs.OpenRemarks.{IsAlong, along-all, along-first, along-on}
use Rattle.p21_stream_resume.specs.Lexing.{mode_on}
use Rattle.p21_stream_resume.specs.Standing.{kept_in}
use Rattle.p21_stream_resume.specs.declared.signpost.Signpost.{Signpost}
use Rattle.p21_tokens_automaton.specs.declared.mode.Mode.{Mode}
use Rattle.p21_stream_resume.proofs.remarks.signpost_in_remark.Goals as goal

pub loop-at-init : goal.loop-at-init
loop-at-init c = λ behind lexed. along-first c.args.statement.now

pub loop-at-preserved : goal.loop-at-preserved
loop-at-preserved c = λ behind lexed.
    let statement = c.args.statement.now in
    let byte : ℕ = get_or statement c.loop-at.at 0 in
    let mode : Mode = mode_on c.loop-at.mode c.loop-at.last byte in
    subst (λ (m : Mode). IsAlong statement (c.loop-at.at + 1) m byte c.kept_in-found.result) (sym c.behind-mode.ensures)
    (subst (λ (o : Option (ℕ × Signpost)). IsAlong statement (c.loop-at.at + 1) mode byte o)
    (ap (λ (m : Mode). kept_in m c.next_in-next.result) (sym c.behind-mode.ensures) ∙ sym c.kept_in-found.ensures)
    (along-on statement behind lexed c.loop-at.at c.loop-at.mode c.loop-at.last c.loop-at-test.true c.loop-at.found c.next_in-next.result (c.loop-at.invariant behind lexed) c.next_in-next.ensures))

pub returns : goal.returns
returns c = λ behind lexed. along-all c.args.statement.now c.loop-at.at c.loop-at.mode c.loop-at.last c.loop-at.found c.loop-at-test.false (c.loop-at.invariant behind lexed)
