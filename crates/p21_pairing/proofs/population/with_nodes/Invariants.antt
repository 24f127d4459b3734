use Rattle.std.specs.Prelude.{◌≡◌, ◌<◌, ◌+◌, ℕ, length}
use Rattle.p21_numbering.specs.Instances.{file_instances, instance_at}
use Rattle.p21_numbering.specs.NewNames.{new_name}
use Rattle.p21_numbering.specs.Nodes.{held_nodes, node_at}
use Rattle.p21_pairing.specs.Population.{IsMovedNode}
use Rattle.p21_pairing.proofs.population.with_nodes.Given as goal

abbrev pub invariant-loop-k : goal.invariant-loop-k
invariant-loop-k l = record {
  size : length l.more.items ≡ length l.fn.nodes.items + l.k;
  kept : (j : ℕ) → j < length l.fn.nodes.items → node_at (held_nodes l.more.items) j ≡ node_at (held_nodes l.fn.nodes.items) j;
  each : (j : ℕ) → j < l.k → IsMovedNode l.schema (new_name l.positions) (instance_at (file_instances l.instances) j)
      (node_at (held_nodes l.more.items) (length l.fn.nodes.items + j));
}
