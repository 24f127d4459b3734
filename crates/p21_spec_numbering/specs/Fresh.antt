-- Ranks that tell the nodes of a graph apart, round by round, by what they use and what uses them (colour refinement, after Weisfeiler
-- and Leman). A round looks at fresh nodes alone: of the parts of a cell that was told apart all are fresh but the first of the
-- largest, so that all rounds together can be done in n log n steps (as in Hopcroft's minimisation of automata).
use Rattle.std.specs.Prelude.{ℕ, zero, suc, Bool, true, List, [], ◌∷◌, ◌++◌, map, length, ◌&&◌, ◌||◌, not, ltb, nat_eq, if◌then◌else◌}
use Rattle.std.specs.List.{flat_map}
use Rattle.p21_spec_file.specs.Sorting.{sort_texts}
use Rattle.p21_spec_numbering.specs.Graph.{Graph, how_many, rank_by}

-- the rank of each node, and whether it is fresh: whether its uses may tell others apart that were not told apart before
pub record Ranks : Type 0 where
  pub rank : ℕ → ℕ
  pub fresh : ℕ → Bool

-- how many nodes are in the cell of the node
abbrev pub size : Graph → (ℕ → ℕ) → ℕ → ℕ
size g cell n = how_many (λ m. nat_eq (cell m) (cell n)) g.nodes

-- the part of the first node is larger than that of the second, or as large and before it
abbrev pub is_larger : Graph → (ℕ → ℕ) → ℕ → ℕ → Bool
is_larger g part m n = ltb (size g part n) (size g part m) || (nat_eq (size g part m) (size g part n) && ltb (part m) (part n))

-- of the parts of a cell the node's is the largest, or the first of these
abbrev pub is_largest : Graph → (ℕ → ℕ) → (ℕ → ℕ) → ℕ → Bool
is_largest g old new n = nat_eq (how_many (λ m. nat_eq (old m) (old n) && is_larger g new m n) g.nodes) 0

-- a use by its side (0: of others, 1: by others), place and rank of the node at its other end, in this order; the 0 behind the
-- place lets a place come before those that go on from it
abbrev pub entry : ℕ → ℕ → List ℕ → List ℕ
entry side rank place = side ∷ (map suc place ++ (0 ∷ rank ∷ []))

-- the uses between two nodes, as the first sees them
abbrev pub entries : Graph → ℕ → ℕ → ℕ → List (List ℕ)
entries g rank n m = map (entry 0 rank) (g.places n m) ++ map (entry 1 rank) (g.places m n)

-- the uses of fresh nodes by the node, and those of the node by fresh nodes, in order
abbrev pub fresh_uses : Graph → Ranks → ℕ → List (List ℕ)
fresh_uses g c n = sort_texts (flat_map (λ m. if c.fresh m then entries g (c.rank m) n m else []) g.nodes)

abbrev pub fresh_key : Graph → Ranks → ℕ → List (List ℕ)
fresh_key g c n = (c.rank n ∷ []) ∷ fresh_uses g c n

-- ranks by the uses of fresh nodes; those nodes are fresh now that do not stand in the first of the largest parts of their cell
abbrev pub tell : Graph → Ranks → Ranks
tell g c = record {
  rank = rank_by (fresh_key g c) g.nodes;
  fresh = λ n. not (is_largest g c.rank (rank_by (fresh_key g c) g.nodes) n);
}

-- no node is fresh
abbrev pub is_told : Graph → Ranks → Bool
is_told g c = nat_eq (how_many c.fresh g.nodes) 0

-- at first the ranks are those of the labels, and all nodes are fresh; then so many rounds, as long as a node is fresh
abbrev pub told : Graph → ℕ → Ranks
told g zero = record { rank = rank_by g.label g.nodes; fresh = λ n. true }
told g (suc rounds) = if is_told g (told g rounds) then told g rounds else tell g (told g rounds)

-- the ranks once no node is fresh, or after a round for each node
abbrev pub final_rank : Graph → ℕ → ℕ
final_rank g = (told g (length g.nodes)).rank
