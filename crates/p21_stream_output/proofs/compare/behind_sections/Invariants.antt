use Rattle.std.proofs.Common.{◌≡◌, ◌++◌, map, take}
use Rattle.std.specs.List.{flat_map}
use Rattle.p21_stream_output.specs.Output.{section_text}
use Rattle.p21_stream_output.specs.Stored.{written_section}
use Rattle.p21_stream_output.proofs.compare.behind_sections.Given as goal

abbrev pub invariant-loop-section : goal.invariant-loop-section
invariant-loop-section l = l.text ≡ flat_map section_text (map (written_section l.instances) (take l.section-index l.sections)) ++ l.left
