use Rattle.std.proofs.Common.{◌≡◌, ◌++◌, map, take}
use Rattle.std.specs.List.{flat_map}
use Rattle.p21_stream_output.specs.Output.{section_text}
use Rattle.p21_stream_output.specs.Stored.{written_section}
use Rattle.p21_stream_io.specs.Transfer.{AppendsAllBut}
use Rattle.p21_stream_output.proofs.output.put_sections.Given as goal

abbrev pub invariant-loop-section : goal.invariant-loop-section
invariant-loop-section g l = record {
  puts : AppendsAllBut (g.W.Write.contents l.fn.writer.inner) (g.W.Write.contents l.writer.inner)
      (l.fn.waiting ++ flat_map section_text (map (written_section l.instances) (take l.section-index l.sections))) l.waiting;
  failures : l.writer.failures ≡ l.fn.writer.failures;
}
