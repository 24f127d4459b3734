use Rattle.std.proofs.Common.{◌∙◌, ap, subst, sym}
use Rattle.p21_stream_output.proofs.Putting.{all_put, each-read, more_put, part_put}
use Rattle.p21_stream_output.specs.declared.accepted.Section.{Section}
use Rattle.p21_stream_output.specs.Output.{section_text}
use Rattle.p21_stream_output.specs.Stored.{ArePositions, written_section}
use Rattle.p21_stream_output.proofs.output.put_sections.Goals as goal

pub put_section-requires : goal.put_section-requires
put_section-requires g c =
    let P = λ (x : Section). ArePositions c.args.instances.now x.instance_positions in
    subst P (sym c.section-item.is) (each-read P c.args.sections.now c.loop-section.section-index c.section-item.result c.requires
    c.loop-section-test.true)

pub returns-in_default-clause-err : goal.returns-in_default-clause-err
returns-in_default-clause-err g c =
    part_put _ _ _ c.args.waiting.now c.loop-section.waiting _ section_text (written_section c.args.instances.now) c.args.sections.now
    c.loop-section.section-index c.section-item.result c.loop-section-test.true
    (ap (λ (x : Section). section_text (written_section c.args.instances.now x)) c.section-item.is) c.loop-section.invariant.puts
    c.in_default.ensures.err

pub loop-section-preserved : goal.loop-section-preserved
loop-section-preserved g c = record {
  puts = more_put _ _ _ c.args.waiting.now c.loop-section.waiting _ _ section_text (written_section c.args.instances.now)
      c.args.sections.now c.loop-section.section-index c.section-item.result c.loop-section-test.true
      (ap (λ (x : Section). section_text (written_section c.args.instances.now x)) c.section-item.is) c.loop-section.invariant.puts
      c.in-Ok.ensures.ok;
  failures = c.in-Ok.ensures.written ∙ c.loop-section.invariant.failures;
}

pub returns-clause-ok : goal.returns-clause-ok
returns-clause-ok g c = all_put _ _ c.args.waiting.now _ section_text (written_section c.args.instances.now) c.args.sections.now _
    c.loop-section-test.false c.loop-section.invariant.puts
