use Rattle.std.proofs.Common.{ℕ, map, take, drop, ap, sym, ◌∙◌, arith}
use Rattle.p21_stream_output.proofs.Putting.{all_put, further_part, further_put}
use Rattle.p21_stream_output.specs.Output.{line_of}
use Rattle.p21_stream_store.specs.StoredInstance.{text_at}
use Rattle.p21_stream_output.proofs.output.put_lines.Goals as goal

pub returns-in_default-clause-err : goal.returns-in_default-clause-err
returns-in_default-clause-err g c = further_part _ _ _ c.args.waiting.now c.loop-next.waiting line_of (text_at c.args.instances.now)
    c.args.instance_positions.now _ c.loop-next.next _ (c.texts.ensures ∙ c.lines-lines.ensures.texts) c.loop-next.invariant.puts
    c.in_default.ensures.err

pub loop-next-preserved : goal.loop-next-preserved
loop-next-preserved g c = record {
  puts = further_put _ _ _ c.args.waiting.now c.loop-next.waiting _ line_of (text_at c.args.instances.now) c.args.instance_positions.now _
      c.loop-next.next _ (c.texts.ensures ∙ c.lines-lines.ensures.texts
      ∙ ap (λ (n : ℕ). map (text_at c.args.instances.now) (take n (drop c.loop-next.next c.args.instance_positions.now)))
      (sym c.len-next.ensures)) c.loop-next.invariant.puts c.in-Ok.ensures.ok;
  failures = c.in-Ok.ensures.written ∙ c.loop-next.invariant.failures;
}

pub returns-clause-ok : goal.returns-clause-ok
returns-clause-ok g c = all_put _ _ c.args.waiting.now _ line_of (text_at c.args.instances.now) c.args.instance_positions.now
    c.loop-next.next (omega (arith, c.loop-next-test.false, c.len.ensures)) c.loop-next.invariant.puts
