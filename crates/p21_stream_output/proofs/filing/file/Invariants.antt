use Rattle.std.proofs.Common.{◌≡◌, take}
use Rattle.p21_stream_output.specs.Filing.{filed_rows, heads_of, section_positions, section_at}
use Rattle.p21_stream_output.proofs.filing.file.Given as goal

abbrev pub invariant-loop-index : goal.invariant-loop-index
invariant-loop-index l = record {
  heads : heads_of l.parts.items ≡ heads_of l.fn.parts.items;
  rows : section_positions l.parts.items ≡ filed_rows (section_at l.memberships l.instances) (take l.index l.order)
      (section_positions l.fn.parts.items);
}
