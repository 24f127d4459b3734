use Rattle.std.proofs.Common.{ℕ, map, take, drop, ap, sym, ◌∙◌, arith}
use Rattle.p21_stream_output.proofs.Comparing.{all_behind, further_behind, further_lacks}
use Rattle.p21_stream_output.specs.Output.{line_of}
use Rattle.p21_stream_store.specs.StoredInstance.{text_at}
use Rattle.p21_stream_output.proofs.compare.behind_lines.Goals as goal

pub returns-in_default : goal.returns-in_default
returns-in_default c = further_lacks _ _ line_of (text_at c.args.instances.now) c.args.instance_positions.now _ c.loop-next.next _
    (c.texts.ensures ∙ c.lines-lines.ensures.texts) c.loop-next.invariant c.in_default.ensures

pub loop-next-preserved : goal.loop-next-preserved
loop-next-preserved c = further_behind _ _ _ line_of (text_at c.args.instances.now) c.args.instance_positions.now _ c.loop-next.next _
    (c.texts.ensures ∙ c.lines-lines.ensures.texts ∙ ap
    (λ (n : ℕ). map (text_at c.args.instances.now) (take n (drop c.loop-next.next c.args.instance_positions.now))) (sym c.len-next.ensures))
    c.loop-next.invariant c.in-Some.ensures

pub returns : goal.returns
returns c = all_behind _ _ line_of (text_at c.args.instances.now) c.args.instance_positions.now c.loop-next.next
    (omega (arith, c.loop-next-test.false, c.len.ensures)) c.loop-next.invariant
