use Rattle.std.proofs.Common.{◌≡◌, ◌++◌}
use Rattle.p21_commands.specs.SchemaText.{are_some, joined, words_of}
use Rattle.p21_express_graph.specs.Lookups.{places_from}
use Rattle.p21_stream_io.specs.Transfer.{AppendsAllBut}
use Rattle.p21_commands.proofs.print.put_own.Given as goal

-- the words so far are put
abbrev pub invariant-loop-index : goal.invariant-loop-index
invariant-loop-index g l = record {
  puts : AppendsAllBut (g.W.Write.contents l.fn.writer.inner) (g.W.Write.contents l.writer.inner)
      (l.fn.waiting ++ joined l.some (words_of l.schema l.entity.0 (places_from l.owner.0 0 l.index))) l.waiting;
  stand : l.after ≡ are_some l.some (words_of l.schema l.entity.0 (places_from l.owner.0 0 l.index));
  failures : l.writer.failures ≡ l.fn.writer.failures;
}
