use Rattle.std.specs.Prelude.{◌≡◌, ◌<◌, ℕ, length, take}
use Rattle.p21_numbering.specs.Instances.{file_instances, instance_at, names_of}
use Rattle.p21_numbering.specs.Nodes.{held_nodes, names, node_at}
use Rattle.p21_numbering.specs.NodesOf.{IsNodeFor}
use Rattle.p21_numbering.proofs.file_orders.nodes.Given as goal

abbrev pub invariant-loop-k : goal.invariant-loop-k
invariant-loop-k l = record {
  size : length l.nodes.items ≡ l.k;
  names : names (held_nodes l.nodes.items) ≡ names_of (file_instances (take l.k l.instances));
  each : (k : ℕ) → k < l.k → IsNodeFor l.schema (instance_at (file_instances l.instances) k).name
      (instance_at (file_instances l.instances) k).typed (instance_at (file_instances l.instances) k).heading
      (node_at (held_nodes l.nodes.items) k);
}
