use Rattle.std.proofs.Common.{subst}
use Rattle.p21_stream_output.specs.NamedSections.{HasHeading}
use Rattle.p21_stream_kept.proofs.Ended.{empty-more, parts-more}
use Rattle.p21_stream_kept.specs.Sections.{heading_in}
use Rattle.p21_stream_kept.specs.declared.sections.Section.{Section}
use Rattle.p21_stream_kept.proofs.end.named_sections_of.Goals as goal

pub loop-section-preserved : goal.loop-section-preserved
loop-section-preserved c = record {
  begin = parts-more c.args.sections.now c.loop-section.section-index c.section-item.result c.loop-section.parts.items c.push.new.self.items
      c.in_ok-part.part c.loop-section-test.true c.in_ok-push.ensures.items c.loop-section.invariant.begin
      (subst (λ (x : Section). HasHeading (heading_in x.part) c.in_ok-part.part) (c.section-item.is) c.in_ok-part.ensures.begins);
  empty = empty-more c.loop-section.parts.items c.push.new.self.items c.in_ok-part.part c.in_ok-push.ensures.items
      c.loop-section.invariant.empty c.in_ok-part.ensures.empty;
}
