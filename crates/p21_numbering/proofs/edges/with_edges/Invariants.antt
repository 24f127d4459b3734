use Rattle.std.specs.List.{flat_map}
use Rattle.std.specs.Prelude.{◌≡◌, ◌++◌, take}
use Rattle.p21_numbering.specs.Edges.{edge_of}
use Rattle.p21_numbering.specs.PlacedUses.{held_uses}
use Rattle.p21_numbering.specs.Rows.{lent_rows}
use Rattle.p21_numbering.proofs.edges.with_edges.Given as goal

abbrev pub invariant-loop-one : goal.invariant-loop-one
invariant-loop-one l = l.more.items ≡ l.fn.edges.items
    ++ flat_map (edge_of l.positions (lent_rows l.places) l.node) (held_uses (take l.one-index l.uses))
