-- The instances of two files as one population: nodes that have positions for names, and their ranks.
use Rattle.std.specs.Prelude.{◌≡◌, ◌<◌, ◌+◌, ℕ, List, map, length, Contains}
use Rattle.p21_spec_basics.proofs.Shuffles.{NoneTwice}
use Rattle.p21_spec_file.specs.File.{FileMeaning}
use Rattle.p21_spec_numbering.proofs.Uses.{moved_use}
use Rattle.p21_spec_numbering.specs.Ordered.{Ranking, position}
use Rattle.p21_spec_pairing.specs.Joined.{joined, of_first, of_second}
use Rattle.p21_spec_schema.specs.Schema.{Schema}
use Rattle.p21_numbering.specs.Arrays.{rank_at}
use Rattle.p21_numbering.specs.declared.graph.Node.{Node as CodeNode}
use Rattle.p21_numbering.specs.declared.instances.Instance.{Instance as CodeInstance}
use Rattle.p21_numbering.specs.Instances.{Instance, file_instances, instance_at, names_of}
use Rattle.p21_numbering.specs.Nodes.{Node, held_nodes, node_at}
use Rattle.p21_numbering.specs.NodesOf.{IsNodeFor}

-- the node of an instance, with other names
pub record IsMovedNode (s : Schema) (moved : ℕ → ℕ) (i : Instance) (node : Node) : Type 0 where
  pub own : Node
  pub own_is : IsNodeFor s i.name i.typed i.heading own
  pub own_name : own.name ≡ i.name
  pub name_is : node.name ≡ moved i.name
  pub label_is : node.label ≡ own.label
  pub uses_are : node.uses ≡ map (moved_use moved) own.uses

-- the names are positions from this one on, if they differ in the file
abbrev pub ArePositions : (ℕ → ℕ) → ℕ → List ℕ → Type 0
ArePositions moved start ns = NoneTwice ns → (n : ℕ) → Contains ns n → moved n ≡ start + position ns n

-- the nodes from this one on are those of the instances, with positions for names
pub record AreMovedNodes (s : Schema) (all : List Instance) (start : ℕ) (nodes : List Node) : Type 0 where
  pub moved : ℕ → ℕ
  pub positions : ArePositions moved start (names_of all)
  pub each : (k : ℕ) → k < length all → IsMovedNode s moved (instance_at all k) (node_at nodes (start + k))

-- the same of instances and nodes of the code
abbrev pub AreNodesFrom : Schema → List CodeInstance → ℕ → List CodeNode → Type 0
AreNodesFrom s all start nodes = AreMovedNodes s (file_instances all) start (held_nodes nodes)

-- the first nodes are the same
abbrev pub BeginWith : List CodeNode → List CodeNode → Type 0
BeginWith nodes more = (k : ℕ) → k < length nodes → node_at (held_nodes more) k ≡ node_at (held_nodes nodes) k

-- the ranks of both files together: those of the first one's instances, and behind them those of the second one's
pub record AreJointRanks (ranking : Ranking) (a b : FileMeaning) (first second : List Instance) (ranks : List ℕ) : Type 0 where
  pub of_one : (k : ℕ) → k < length first → rank_at ranks k ≡ ranking (joined a b) (of_first (instance_at first k).name)
  pub of_other : (k : ℕ) → k < length second
      → rank_at ranks (length first + k) ≡ ranking (joined a b) (of_second (instance_at second k).name)
