use Rattle.std.proofs.Common.{◌≡◌, ◌++◌, ℕ, List, Bor, map, take}
use Rattle.std.specs.List.{flat_map}
use Rattle.p21_stream_output.specs.Output.{line_of}
use Rattle.p21_stream_io.specs.Transfer.{AppendsAllBut}
use Rattle.p21_stream_output.proofs.output.put_texts.Given as goal

abbrev pub invariant-loop-text : goal.invariant-loop-text
invariant-loop-text g l = record {
  puts : AppendsAllBut (g.W.Write.contents l.fn.writer.inner) (g.W.Write.contents l.writer.inner)
      (l.fn.waiting ++ flat_map line_of (map (λ (text : Bor (List ℕ)). text.now) (take l.text-index l.texts))) l.waiting;
  failures : l.writer.failures ≡ l.fn.writer.failures;
}
