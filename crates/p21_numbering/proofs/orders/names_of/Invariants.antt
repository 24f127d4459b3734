use Rattle.std.specs.Prelude.{◌≡◌, map, take}
use Rattle.p21_numbering.specs.Arrays.{Entry}
use Rattle.p21_numbering.specs.Ranked.{held_instances, name_of}
use Rattle.p21_numbering.proofs.orders.names_of.Given as goal

abbrev pub invariant-loop-entry : goal.invariant-loop-entry
invariant-loop-entry l = l.names.items ≡ map (λ (e : Entry). name_of (held_instances l.instances) e.2) (take l.entry-index l.sorted)
