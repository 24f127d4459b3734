use Rattle.std.proofs.Common.{length}
use Rattle.p21_stream_output.proofs.Searching.{AreLeft}
use Rattle.p21_stream_output.proofs.search.line_of_section.Given as goal

-- the name stands in none of the sections before
abbrev pub invariant-loop-section : goal.invariant-loop-section
invariant-loop-section l = AreLeft l.instances l.name l.fn.sections l.left

abbrev pub decreases-loop-section : goal.decreases-loop-section
decreases-loop-section l = length l.left
