-- The uses of nodes by one another, by the numbers of nodes and places.
use Rattle.std.specs.Prelude.{◌≡◌, ◌<◌, ℕ, List, [], ◌∷◌, Option, Some, None, map, length, Contains}
use Rattle.std.specs.BTreeMap.{BTreeMap, get}
use Rattle.std.specs.List.{flat_map}
use Rattle.std.specs.List.Sorted.{IsNonDecreasingBy}
use Rattle.std.specs.Ordering.{nat_cmp}
use Rattle.p21_spec_basics.proofs.Shuffles.{NoneTwice}
use Rattle.p21_spec_numbering.specs.Uses.{Use}
use Rattle.p21_numbering.specs.Arrays.{Edge}
use Rattle.p21_numbering.specs.Nodes.{Node, node_at, name_at, names}
use Rattle.p21_numbering.specs.Rows.{rank_among}

-- the places of all references
abbrev pub own_places : Node → List (List ℕ)
own_places n = map (λ (u : Use). u.0) n.uses

abbrev pub places_of : List Node → List (List ℕ)
places_of nodes = flat_map own_places nodes

-- the number of a place: how many of all are below it
abbrev pub number : List Node → List ℕ → ℕ
number nodes place = rank_among (places_of nodes) place

-- the map has a position of each name
pub record FindsNames (found : BTreeMap ℕ ℕ) (nodes : List Node) : Type 0 where
  pub right : (n at : ℕ) → get nat_cmp found n ≡ Some at → (at < length nodes) × (name_at nodes at ≡ n)
  pub all : (n : ℕ) → get nat_cmp found n ≡ None → Contains (names nodes) n → ⊥

-- the edge of a reference, if it leads to a node
abbrev pub edge_to : ℕ → ℕ → Option ℕ → List Edge
edge_to node place None = []
edge_to node place (Some other) = (node, other, place) ∷ []

abbrev pub edge_of : BTreeMap ℕ ℕ → List (List ℕ) → ℕ → Use → List Edge
edge_of found places node u = edge_to node (rank_among places u.0) (get nat_cmp found u.1)

abbrev pub edges_from : BTreeMap ℕ ℕ → List (List ℕ) → List Node → ℕ → List Edge
edges_from found places nodes k = flat_map (edge_of found places k) (node_at nodes k).uses

-- in the order of their nodes, none twice
pub record AreOrdered (edges : List Edge) : Type 0 where
  pub rise : IsNonDecreasingBy (λ (e : Edge). e.0) edges
  pub once : NoneTwice edges

-- an edge for each reference to a node, and no other
pub record AreEdges (nodes : List Node) (edges : List Edge) : Type 0 where
  pub sound : (e : Edge) → Contains edges e → (e.0 < length nodes) × (e.1 < length nodes)
      × ((u : Use) × Contains (node_at nodes e.0).uses u × (name_at nodes e.1 ≡ u.1) × (e.2 ≡ number nodes u.0))
  pub complete : (j : ℕ) (u : Use) → j < length nodes → Contains (node_at nodes j).uses u → Contains (names nodes) u.1
      → (k : ℕ) × (k < length nodes) × (name_at nodes k ≡ u.1) × Contains edges (j, k, number nodes u.0)

-- the edge from the other node
abbrev pub turned_edge : Edge → Edge
turned_edge e = (e.1, e.0, e.2)
