use Rattle.std.specs.Prelude.{◌≡◌, ◌++◌, map, take}
use Rattle.p21_spec_numbering.specs.Uses.{Use}
use Rattle.p21_numbering.specs.PlacedUses.{held_uses}
use Rattle.p21_numbering.specs.Rows.{lent_rows}
use Rattle.p21_numbering.proofs.edges.with_places.Given as goal

abbrev pub invariant-loop-one : goal.invariant-loop-one
invariant-loop-one l = lent_rows l.more.items ≡ lent_rows l.fn.places.items ++ map (λ (u : Use). u.0) (held_uses (take l.one-index l.uses))
