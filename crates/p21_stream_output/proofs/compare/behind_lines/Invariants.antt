use Rattle.std.proofs.Common.{◌≡◌, ◌-◌, ◌++◌, length, map, take}
use Rattle.std.specs.List.{flat_map}
use Rattle.p21_stream_output.specs.Output.{line_of}
use Rattle.p21_stream_store.specs.StoredInstance.{text_at}
use Rattle.p21_stream_output.proofs.compare.behind_lines.Given as goal

abbrev pub invariant-loop-next : goal.invariant-loop-next
invariant-loop-next l = l.text ≡ flat_map line_of (map (text_at l.instances) (take l.next l.instance_positions)) ++ l.left

abbrev pub decreases-loop-next : goal.decreases-loop-next
decreases-loop-next l = length l.instance_positions - l.next
