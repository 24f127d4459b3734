use Rattle.std.proofs.Common.{ℕ, List, [], Bor, ◌∙◌, refl}
use Rattle.p21_stream_output.proofs.Putting.{all_put, more_put, part_put}
use Rattle.p21_stream_output.specs.Output.{line_of}
use Rattle.p21_stream_output.proofs.output.put_texts.Goals as goal

abbrev no_text : Bor (List ℕ)
no_text = record { ref_ptr = (0, 0); now = [] }

pub returns-in_default-clause-err : goal.returns-in_default-clause-err
returns-in_default-clause-err g c =
    part_put _ _ _ c.args.waiting.now c.loop-text.waiting _ line_of (λ (text : Bor (List ℕ)). text.now) c.args.texts.now
    c.loop-text.text-index no_text c.loop-text-test.true refl
    c.loop-text.invariant.puts c.in_default.ensures.err

pub loop-text-preserved : goal.loop-text-preserved
loop-text-preserved g c = record {
  puts = more_put _ _ _ c.args.waiting.now c.loop-text.waiting _ _ line_of (λ (text : Bor (List ℕ)). text.now) c.args.texts.now
      c.loop-text.text-index no_text c.loop-text-test.true refl
      c.loop-text.invariant.puts c.in-Ok.ensures.ok;
  failures = c.in-Ok.ensures.written ∙ c.loop-text.invariant.failures;
}

pub returns-clause-ok : goal.returns-clause-ok
returns-clause-ok g c = all_put _ _ c.args.waiting.now _ line_of (λ (text : Bor (List ℕ)). text.now) c.args.texts.now _
    c.loop-text-test.false c.loop-text.invariant.puts
