use Rattle.std.proofs.Common.{take}
use Rattle.std.specs.List.{AllZip}
use Rattle.p21_stream_output.specs.NamedSections.{AreEmpty, HasHeading}
use Rattle.p21_stream_kept.specs.Sections.{headings_of}
use Rattle.p21_stream_kept.proofs.end.named_sections_of.Given as goal

abbrev pub invariant-loop-section : goal.invariant-loop-section
invariant-loop-section l = record {
  begin : AllZip HasHeading (headings_of (take l.section-index l.sections)) l.parts.items;
  empty : AreEmpty l.parts.items;
}
