use Rattle.std.specs.Prelude.{◌≡◌, ◌∷◌, take}
use Rattle.std.specs.List.{flat_map}
use Rattle.p21_numbering.specs.Arrays.{numbers}
use Rattle.p21_numbering.proofs.key_rows.key.Given as goal

abbrev pub invariant-loop-entry : goal.invariant-loop-entry
invariant-loop-entry l = l.key.items ≡ l.fn.rank ∷ flat_map numbers (take l.entry-index l.entries)
