use Rattle.std.proofs.Common.{take}
use Rattle.std.specs.List.{AllZip}
use Rattle.p21_stream_output.specs.NamedSections.{AreEmpty, HasHeading}
use Rattle.p21_numbered_file.specs.Headings.{headings_in}
use Rattle.p21_numbered_file.proofs.headings.named_sections.Given as goal

abbrev pub invariant-loop-k : goal.invariant-loop-k
invariant-loop-k l = record {
  begin : AllZip HasHeading (headings_in (take l.k l.sections)) l.parts.items;
  empty : AreEmpty l.parts.items;
}
