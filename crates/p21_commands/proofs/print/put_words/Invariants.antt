use Rattle.std.proofs.Common.{◌≡◌, ◌++◌, false, map, take}
use Rattle.std.specs.List.{flat_map}
use Rattle.p21_commands.specs.SchemaText.{are_some, joined, words_of}
use Rattle.p21_spec_schema.specs.Order.{own_places}
use Rattle.p21_stream_io.specs.Transfer.{AppendsAllBut}
use Rattle.p21_commands.proofs.print.put_words.Given as goal

-- the words of the owners so far are put
abbrev pub invariant-loop-owner : goal.invariant-loop-owner
invariant-loop-owner g l = record {
  puts : AppendsAllBut (g.W.Write.contents l.fn.writer.inner) (g.W.Write.contents l.writer.inner)
      (l.fn.waiting ++ joined false (words_of l.schema l.entity.0
      (flat_map (own_places l.schema) (map (λ e. e.0) (take l.owner-index l.owner-items))))) l.waiting;
  stand : l.some ≡ are_some false (words_of l.schema l.entity.0
      (flat_map (own_places l.schema) (map (λ e. e.0) (take l.owner-index l.owner-items))));
  failures : l.writer.failures ≡ l.fn.writer.failures;
}
