-- Ranks by names and the sizes of ranks are the standings of a file.
use Rattle.std.specs.List.{range_with_len}
use Rattle.std.specs.Prelude.{◌≡◌, ◌<◌, ℕ, Bool, List, length, map, nat_eq, Contains}
use Rattle.std.proofs.Common.{arith, ap, sym, subst, ◌∙◌, get_or}
use Rattle.std.proofs.lemmas.List.{length-map, get_or-map}
use Rattle.std.proofs.lemmas.List.FromFn.{fill_by_all}
use Rattle.p21_spec_basics.proofs.Members.{Contains-at, Contains-unmapped}
use Rattle.p21_spec_basics.proofs.Shuffles.{NoneTwice, Shuffled, Shuffled-members, Shuffled-none_twice, Shuffled-symmetric}
use Rattle.p21_spec_file.specs.File.{FileMeaning}
use Rattle.p21_spec_numbering.proofs.Lists.{count-agree, count-mapped, count-shuffled}
use Rattle.p21_spec_numbering.proofs.Moved.{names-none_twice}
use Rattle.p21_spec_numbering.specs.Copies.{many as many_in}
use Rattle.p21_spec_numbering.specs.Graph.{how_many}
use Rattle.p21_spec_numbering.specs.Ordered.{Ranking}
use Rattle.p21_spec_numbering.specs.Renamed.{IsWhole, names}
use Rattle.p21_numbering.specs.declared.graph.Node.{Node as Code}
use Rattle.p21_numbering.specs.declared.standings.Standings.{Standings}
use Rattle.p21_numbering.specs.Arrays.{rank_at}
use Rattle.p21_numbering.specs.Largest.{AreSizes}
use Rattle.p21_numbering.specs.NewNames.{NamesGet, new_name}
use Rattle.p21_numbering.specs.Nodes.{HaveRanks, Node, held_node, held_nodes, name_at, names as names_of, no_node}
use Rattle.p21_numbering.specs.Standing.{IsStanding, standing_of}
use Rattle.p21_numbering.proofs.Counts.{range-below}
use Rattle.p21_numbering.proofs.Decisions.{got}

pub name-at : (nodes : List Code) (k : ℕ) (d : Code) → k < length nodes → get_or (names_of (held_nodes nodes)) k 0 ≡ (get_or nodes k d).name
name-at nodes k d low =
    get_or-map (λ (n : Node). n.name) (held_nodes nodes) k (held_node d) 0 (omega (arith, low, length-map nodes held_node))
    ∙ ap (λ (n : Node). n.name) (get_or-map held_node nodes k d (held_node d) low)

-- ---- of a file

module _ (ranking : Ranking) (m : FileMeaning) (whole_ : IsWhole m) (nodes : List Node) (names_are : Shuffled (names_of nodes) (names m))
    (ranks : List ℕ)
    (long : length ranks ≡ length nodes) (within : (k : ℕ) → k < length ranks → rank_at ranks k < length ranks)
    (have : HaveRanks (ranking m) nodes ranks)
    (st : Standings) (found : NamesGet st.ranks (names_of nodes) ranks)
    (sizes : AreSizes (length ranks) (length ranks) ranks st.sizes.items)
  where
    size : length (names_of nodes) ≡ length nodes
    size = length-map nodes (λ (n : Node). n.name)

    once : NoneTwice (names_of nodes)
    once = Shuffled-none_twice (names m) (names_of nodes) (Shuffled-symmetric (names_of nodes) (names m) names_are)
        (names-none_twice m whole_)

    pub record Stands (n : ℕ) : Type 0 where
      pub at : ℕ
      pub low : at < length nodes
      pub is : name_at nodes at ≡ n

    pub stands : (n : ℕ) → Contains (names m) n → Stands n
    stands n among =
        let (node, at, is) = Contains-unmapped (λ (r : Node). r.name) nodes n
        (Shuffled-members (names m) (names_of nodes) (Shuffled-symmetric (names_of nodes) (names m) names_are) n among) in
        let (k, found_) = Contains-at nodes node at in
        let (low, same) = got nodes k node no_node found_ in
        record { at = k; low = low; is = ap (λ (q : Node). q.name) same ∙ is }

    name-got : (k : ℕ) → k < length nodes → get_or (names_of nodes) k 0 ≡ name_at nodes k
    name-got k low = get_or-map (λ (n : Node). n.name) nodes k no_node 0 low

    at-rank : (k : ℕ) → k < length nodes → new_name st.ranks (name_at nodes k) ≡ rank_at ranks k
    at-rank k low = ap (new_name st.ranks) (sym (name-got k low)) ∙ found once k (omega (arith, low, size))

    pub rank-is : (n : ℕ) → Contains (names m) n → (new_name st.ranks n ≡ ranking m n) × (new_name st.ranks n < length ranks)
    rank-is n among =
        let there = stands n among in
        let same = at-rank there.at there.low in
        let low = within there.at (omega (arith, there.low, long)) in (
          ap (new_name st.ranks) (sym there.is) ∙ same ∙ have there.at there.low ∙ ap (ranking m) there.is,
          (let P : ℕ → Type 0 = λ j. new_name st.ranks j < length ranks in subst P there.is (omega (arith, same, low))),
        )

    names-listed : names_of nodes ≡ map (name_at nodes) (range_with_len 0 (length nodes))
    names-listed = fill_by_all (name_at nodes) (names_of nodes) (length nodes) 0 size
        (λ k low. get_or-map (λ (n : Node). n.name) nodes k no_node 0 low)

    many-is : (n : ℕ) → Contains (names m) n → rank_at st.sizes.items (new_name st.ranks n) ≡ many_in ranking m n
    many-is n among =
        let (rank, low) = rank-is n among in
        let of_rank : ℕ → Bool = λ j. nat_eq (ranking m j) (ranking m n) in
        sizes.each (new_name st.ranks n) low
        ∙ ap (λ count. how_many (λ j. nat_eq (rank_at ranks j) (new_name st.ranks n)) (range_with_len 0 count)) long
        ∙ count-agree (λ j. nat_eq (rank_at ranks j) (new_name st.ranks n)) (λ j. of_rank (name_at nodes j))
        (range_with_len 0 (length nodes))
        (λ j at. ap (λ r. nat_eq r (new_name st.ranks n)) (have j (range-below (length nodes) j at))
        ∙ ap (nat_eq (ranking m (name_at nodes j))) rank)
        ∙ sym (count-mapped of_rank (name_at nodes) (range_with_len 0 (length nodes)))
        ∙ ap (how_many of_rank) (sym names-listed)
        ∙ count-shuffled of_rank (names_of nodes) (names m) names_are

    pub standing-is : IsStanding ranking m (standing_of st)
    standing-is = record {
      rank = λ n among. (rank-is n among).0;
      many = many-is;
    }

    -- a rank is below how many there are
    pub rank-low : (n : ℕ) → Contains (names m) n → ranking m n < length ranks
    rank-low n among = let (is, low) = rank-is n among in omega (arith, is, low)
