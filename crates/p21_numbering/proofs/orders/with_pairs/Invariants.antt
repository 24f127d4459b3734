use Rattle.std.specs.List.{flat_map}
use Rattle.std.specs.Prelude.{◌≡◌, ◌++◌, take}
use Rattle.p21_numbering.specs.Ordering.{pair_of}
use Rattle.p21_numbering.proofs.orders.with_pairs.Given as goal

abbrev pub invariant-loop-name : goal.invariant-loop-name
invariant-loop-name l = l.more.items ≡ l.fn.pairs.items ++ flat_map (pair_of l.positions l.position) (take l.name-index l.beside)
