use Rattle.std.proofs.Common.{◌-◌}
use Rattle.p21_stream_output.proofs.Searching.{AreHalves}
use Rattle.p21_stream_output.proofs.search.has_name.Given as goal

-- the name is between them, if it is there
abbrev pub invariant-loop-low : goal.invariant-loop-low
invariant-loop-low l = AreHalves l.instances l.instance_positions l.name l.low l.high

abbrev pub decreases-loop-low : goal.decreases-loop-low
decreases-loop-low l = l.high - l.low
