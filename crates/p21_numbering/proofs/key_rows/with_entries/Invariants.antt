use Rattle.std.specs.Prelude.{◌≡◌, ◌++◌, take}
use Rattle.p21_numbering.specs.Arrays.{entries_at, marked, rank_at}
use Rattle.p21_numbering.proofs.key_rows.with_entries.Given as goal

abbrev pub invariant-loop-one : goal.invariant-loop-one
invariant-loop-one l = l.more.items ≡ l.fn.entries.items ++ entries_at l.side (marked l.fresh) (rank_at l.rank) (take l.one-index l.uses)
