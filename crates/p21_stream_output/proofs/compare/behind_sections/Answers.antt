use Rattle.std.proofs.Common.{ap}
use Rattle.p21_stream_output.proofs.Comparing.{all_behind, more_behind, none_behind}
use Rattle.p21_stream_output.specs.declared.accepted.Section.{Section}
use Rattle.p21_stream_output.specs.Output.{section_text}
use Rattle.p21_stream_output.specs.Stored.{written_section}
use Rattle.p21_stream_output.proofs.compare.behind_sections.Goals as goal

pub returns-in_default : goal.returns-in_default
returns-in_default c =
    none_behind _ _ _ section_text (written_section c.args.instances.now) c.args.sections.now c.loop-section.section-index
    c.section-item.result c.loop-section-test.true
    (ap (λ (x : Section). section_text (written_section c.args.instances.now x)) c.section-item.is) c.loop-section.invariant
    c.in_default.ensures

pub loop-section-preserved : goal.loop-section-preserved
loop-section-preserved c =
    more_behind _ _ _ _ section_text (written_section c.args.instances.now) c.args.sections.now c.loop-section.section-index
    c.section-item.result c.loop-section-test.true
    (ap (λ (x : Section). section_text (written_section c.args.instances.now x)) c.section-item.is) c.loop-section.invariant
    c.in-Some.ensures

pub returns : goal.returns
returns c = all_behind _ _ section_text (written_section c.args.instances.now) c.args.sections.now _ c.loop-section-test.false
    c.loop-section.invariant
