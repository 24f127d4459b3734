-- Graphs whose nodes are the numbers from 0 on, as arrays.
use Rattle.std.specs.Prelude.{◌≡◌, ◌<◌, ◌≤◌, ◌+◌, ◌-◌, ℕ, Bool, false, List, [], ◌∷◌, ◌++◌, map, filter, length, take, drop, slice_index_or, ltb, Contains}
use Rattle.std.specs.Cmp.Lexicographic.{slice_cmp}
use Rattle.std.specs.List.{flat_map, range_with_len}
use Rattle.std.specs.List.Sorted.{IsPermutation, IsSorted}
use Rattle.std.specs.Ordering.{nat_cmp, ordering_then}
use Rattle.p21_spec_basics.proofs.Shuffles.{Shuffled}
use Rattle.p21_spec_numbering.specs.Graph.{Graph, how_many}
use Rattle.p21_spec_numbering.specs.Fresh.{Ranks}
use Rattle.p21_numbering.specs.declared.adjacency.Adjacency.{Adjacency}
use Rattle.std.specs.declared.cmp.Ordering.{Ordering}

-- the other node, and the number of the place
abbrev pub Use : Type 0
Use = ℕ × ℕ

-- a node, the other node, and the number of the place
abbrev pub Edge : Type 0
Edge = ℕ × ℕ × ℕ

abbrev pub other_end : Edge → Use
other_end e = (e.1, e.2)

-- where the edges from this node on begin
pub record IsStart (edges : List Edge) (n at : ℕ) : Type 0 where
  pub low : at ≤ length edges
  pub before : (k : ℕ) (d : Edge) → k < at → (slice_index_or edges k d).0 < n
  pub behind : (k : ℕ) (d : Edge) → at ≤ k → k < length edges → n ≤ (slice_index_or edges k d).0

abbrev pub start : Adjacency → ℕ → ℕ
start a n = slice_index_or a.starts.items n 0

abbrev pub uses_of : Adjacency → ℕ → List Use
uses_of a n = take (start a (n + 1) - start a n) (drop (start a n) a.uses.items)

-- the arrays hold the uses of so many nodes
pub record AreUses (count : ℕ) (a : Adjacency) : Type 0 where
  pub long : length a.starts.items ≡ count + 1
  pub rise : (n : ℕ) → n < count → start a n ≤ start a (n + 1)
  pub end : (n : ℕ) → n ≤ count → start a n ≤ length a.uses.items
  pub within : (u : Use) → Contains a.uses.items u → u.0 < count

-- a use with the place itself
abbrev pub PlacedUse : Type 0
PlacedUse = ℕ × List ℕ

abbrev pub placed : (ℕ → List ℕ) → Use → PlacedUse
placed place u = (u.0, place u.1)

abbrev pub beside : ℕ → List ℕ → PlacedUse
beside m p = (m, p)

-- the number of a place in the arrays
abbrev pub IsPlace : Adjacency → Adjacency → ℕ → Type 0
IsPlace uses users i = (u : Use) × Contains (uses.uses.items ++ users.uses.items) u × (u.1 ≡ i)

-- The arrays stand for a graph: numbers of places are ordered as the places are, and the uses of each node are those of the
-- graph, in any order
pub record Represents (g : Graph) (place : ℕ → List ℕ) (count : ℕ) (uses users : Adjacency) : Type 0 where
  pub nodes : g.nodes ≡ range_with_len 0 count
  pub ordered : (i j : ℕ) → IsPlace uses users i → IsPlace uses users j → slice_cmp nat_cmp (place i) (place j) ≡ nat_cmp i j
  pub onto : (n : ℕ) → n < count
      → Shuffled (map (placed place) (uses_of uses n)) (flat_map (λ m. map (beside m) (g.places n m)) g.nodes)
  pub from : (n : ℕ) → n < count
      → Shuffled (map (placed place) (uses_of users n)) (flat_map (λ m. map (beside m) (g.places m n)) g.nodes)

-- the rank at a position
abbrev pub rank_at : List ℕ → ℕ → ℕ
rank_at rank n = slice_index_or rank n 0

-- the first positions have these ranks
abbrev pub AreRanksBy : (ℕ → ℕ) → ℕ → List ℕ → Type 0
AreRanksBy rank count ranks = (n : ℕ) → n < count → rank_at ranks n ≡ rank n

-- the mark at a position
abbrev pub marked : List Bool → ℕ → Bool
marked marks n = slice_index_or marks n false

abbrev pub ranks_of : List ℕ → List Bool → Ranks
ranks_of rank fresh = record { rank = rank_at rank; fresh = marked fresh }

-- a use as a round sees it: its side (0: of the other node, 1: by it), the number of the place, and the rank of the other node
abbrev pub Entry : Type 0
Entry = ℕ × ℕ × ℕ

abbrev pub entry_cmp : Entry → Entry → Ordering
entry_cmp a b = ordering_then (ordering_then (nat_cmp a.0 b.0) (nat_cmp a.1 b.1)) (nat_cmp a.2 b.2)

abbrev pub as_entry : ℕ → (ℕ → ℕ) → Use → Entry
as_entry side rank u = (side, u.1, rank u.0)

-- the uses whose other node passes the test
abbrev pub entries_at : ℕ → (ℕ → Bool) → (ℕ → ℕ) → List Use → List Entry
entries_at side test rank uses = map (as_entry side rank) (filter (λ (u : Use). test u.0) uses)

abbrev pub numbers : Entry → List ℕ
numbers e = e.0 ∷ e.1 ∷ e.2 ∷ []

-- the key of a node: its rank, and in order its uses of fresh nodes and by fresh nodes
pub record IsKey (rank : ℕ) (c : Ranks) (uses users : List Use) (key : List ℕ) : Type 0 where
  pub entries : List Entry
  pub key_is : key ≡ rank ∷ flat_map numbers entries
  pub entries_are : IsPermutation (entries_at 0 c.fresh c.rank uses ++ entries_at 1 c.fresh c.rank users) entries
  pub entries_rise : IsSorted entry_cmp entries

-- the rank of each node is how many have a lower one
abbrev pub AreCounted : ℕ → (ℕ → ℕ) → Type 0
AreCounted count rank = (n : ℕ) → n < count → how_many (λ m. ltb (rank m) (rank n)) (range_with_len 0 count) ≡ rank n

-- ranks of so many nodes
pub record AreRanks (count : ℕ) (rank : List ℕ) (fresh : List Bool) : Type 0 where
  pub ranks : length rank ≡ count
  pub marks : length fresh ≡ count
  pub within : (n : ℕ) → n < count → rank_at rank n < count
  pub counted : AreCounted count (rank_at rank)

-- the same for the nodes below this number
pub record AgreeBelow (count : ℕ) (c d : Ranks) : Type 0 where
  pub rank : (n : ℕ) → n < count → c.rank n ≡ d.rank n
  pub fresh : (n : ℕ) → n < count → c.fresh n ≡ d.fresh n
