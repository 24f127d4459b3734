use Rattle.std.proofs.Common.{◌≡◌, ◌++◌, length, map, take}
use Rattle.std.specs.List.{flat_map, range_with_len}
use Rattle.p21_commands.specs.SchemaText.{entity_line}
use Rattle.p21_stream_io.specs.Transfer.{AppendsAllBut}
use Rattle.p21_commands.proofs.print.put_entities.Given as goal

-- the lines so far are put
abbrev pub invariant-loop-number : goal.invariant-loop-number
invariant-loop-number g l = record {
  puts : AppendsAllBut (g.W.Write.contents l.fn.writer.inner) (g.W.Write.contents l.writer.inner)
      (l.fn.waiting ++ flat_map (λ line. line) (map (entity_line l.schema) (take l.number (range_with_len 0 (length l.schema.entities)))))
      l.waiting;
  failures : l.writer.failures ≡ l.fn.writer.failures;
}
