use Rattle.p21_stream_store.specs.Positions.{IsSame, position_beside}
use Rattle.p21_stream_store.specs.Tables.{KeepsRoom}
use Rattle.p21_stream_store.proofs.name_table.move_names.Given as goal

abbrev pub invariant-loop : goal.invariant-loop
invariant-loop l = record {
  same : IsSame (position_beside l.fn.marks l.fn.others) (position_beside l.marks l.others);
  room : KeepsRoom l.fn.marks l.marks;
}
