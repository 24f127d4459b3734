use Rattle.std.specs.Prelude.{◌≡◌, ◌-◌, ℕ, [], length}
use Rattle.p21_numbering.specs.Joining.{row_at}
use Rattle.p21_numbering.specs.Rows.{held_rows}
use Rattle.p21_pairing.specs.Left.{AreListed}
use Rattle.p21_pairing.proofs.left.listed.Given as goal

abbrev pub invariant-loop-key : goal.invariant-loop-key
invariant-loop-key l = record {
  size : length l.empty.items ≡ l.key;
  none : (n : ℕ) → row_at (held_rows l.empty.items) n ≡ [];
}

abbrev pub invariant-loop-k : goal.invariant-loop-k
invariant-loop-k l = AreListed l.keys l.start l.owners (length l.owners - l.k) (held_rows l.rows.items)
