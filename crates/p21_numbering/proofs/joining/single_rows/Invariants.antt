use Rattle.std.specs.List.{range_with_len}
use Rattle.std.specs.Prelude.{◌≡◌, ◌∷◌, [], map}
use Rattle.p21_numbering.specs.Rows.{held_rows}
use Rattle.p21_numbering.proofs.joining.single_rows.Given as goal

abbrev pub invariant-loop-k : goal.invariant-loop-k
invariant-loop-k l = held_rows l.rows.items ≡ map (λ k. k ∷ []) (range_with_len 0 l.k)
