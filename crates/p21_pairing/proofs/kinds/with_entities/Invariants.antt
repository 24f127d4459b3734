use Rattle.std.specs.Prelude.{◌≡◌, ◌++◌, map, take}
use Rattle.p21_numbering.specs.Instances.{Instance, file_instances}
use Rattle.p21_numbering.specs.Rows.{held_rows}
use Rattle.p21_pairing.proofs.kinds.with_entities.Given as goal

abbrev pub invariant-loop-k : goal.invariant-loop-k
invariant-loop-k l = held_rows l.more.items ≡ held_rows l.fn.rows.items
    ++ map (λ (i : Instance). i.typed.entities) (file_instances (take l.k l.instances))
