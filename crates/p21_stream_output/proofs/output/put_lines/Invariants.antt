use Rattle.std.proofs.Common.{◌≡◌, ◌-◌, ◌++◌, length, map, take}
use Rattle.std.specs.List.{flat_map}
use Rattle.p21_stream_output.specs.Output.{line_of}
use Rattle.p21_stream_store.specs.StoredInstance.{text_at}
use Rattle.p21_stream_io.specs.Transfer.{AppendsAllBut}
use Rattle.p21_stream_output.proofs.output.put_lines.Given as goal

abbrev pub invariant-loop-next : goal.invariant-loop-next
invariant-loop-next g l = record {
  puts : AppendsAllBut (g.W.Write.contents l.fn.writer.inner) (g.W.Write.contents l.writer.inner)
      (l.fn.waiting ++ flat_map line_of (map (text_at l.instances) (take l.next l.instance_positions))) l.waiting;
  failures : l.writer.failures ≡ l.fn.writer.failures;
}

abbrev pub decreases-loop-next : goal.decreases-loop-next
decreases-loop-next g l = length l.instance_positions - l.next
