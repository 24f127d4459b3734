-- The graph of nodes by their positions, and the arrays that stand for it.
use Rattle.std.specs.Prelude.{◌≡◌, ◌↔◌, ℕ, zero, suc, ◌<◌, Bool, List, [], ◌∷◌, map, filter, length, Contains, nat_eq, refl}
use Rattle.std.specs.Cmp.Lexicographic.{slice_cmp}
use Rattle.std.specs.List.{flat_map, range_with_len}
use Rattle.std.specs.Ordering.{nat_cmp, is_lt}
use Rattle.std.proofs.Common.{arith, ap, sym, subst, ◌∙◌, inl, inr, get_or}
use Rattle.std.proofs.lemmas.Bool.{eqb-true, eq-eqb}
use Rattle.std.proofs.lemmas.List.{get_or-map, length-map}
use Rattle.std.proofs.lemmas.List.Elements.{Contains-get_or, Contains-append_cases}
use Rattle.std.proofs.lemmas.List.FromFn.{fill_by_all}
use Rattle.p21_spec_basics.proofs.Members.{Contains-mapped, Contains-unmapped, Contains-filter, Contains-unfiltered, Contains-flat_map}
use Rattle.p21_spec_basics.proofs.Shuffles.{NoneTwice, Shuffled, Shuffled-members, Shuffled-none_twice, Shuffled-symmetric}
use Rattle.p21_spec_file.specs.Sorting.{is_below, sort_texts}
use Rattle.p21_spec_numbering.specs.Fresh.{final_rank}
use Rattle.p21_spec_numbering.specs.Graph.{Graph, how_many, rank_by}
use Rattle.p21_spec_numbering.specs.Uses.{Use, once, places_to}
use Rattle.p21_spec_numbering.proofs.Fresh.{told-moved}
use Rattle.p21_spec_numbering.proofs.Lists.{count-mapped, count-agree}
use Rattle.p21_spec_numbering.proofs.Ranks.{IsMoved}
use Rattle.p21_spec_numbering.proofs.Uses.{members-once, once-members, once-none_twice, passes}
use Rattle.p21_numbering.specs.declared.adjacency.Adjacency.{Adjacency}
use Rattle.p21_numbering.specs.Arrays.{Edge, IsPlace, Represents, other_end, placed, beside, uses_of, rank_at}
use Rattle.p21_numbering.specs.Edges.{AreEdges, AreOrdered, number, own_places, places_of, turned_edge}
use Rattle.p21_numbering.specs.Nodes.{IsGraph, Node, name_at, names, no_node, node_at}
use Rattle.p21_numbering.specs.Rows.{rank_among}
use Rattle.p21_numbering.proofs.Counts.{Contains-range, range-below}
use Rattle.p21_numbering.proofs.PlaceNumbers.{ranks-ordered, text_of, text-is}
use Rattle.p21_numbering.proofs.RankedRows.{sorted-shuffled}
use Rattle.p21_numbering.proofs.Represented.{HasEdges, edges-stand}

-- ---- places of references

pub places_to-complete : (n : ℕ) (us : List Use) (u : Use) → Contains us u → u.1 ≡ n → Contains (places_to n us) u.0
places_to-complete n us u among same =
    let at : List Use = filter (λ (v : Use). nat_eq v.1 n) us in
    let ps : List (List ℕ) = map (λ (v : Use). v.0) at in
    let kept : Contains at u = Contains-filter (λ (v : Use). nat_eq v.1 n) us u (eq-eqb u.1 n same) among in
    Shuffled-members (once ps) (sort_texts (once ps)) (sorted-shuffled (once ps)) u.0
    (members-once ps u.0 (Contains-mapped (λ (v : Use). v.0) at u kept))

pub places_to-sound : (n : ℕ) (us : List Use) (p : List ℕ) → Contains (places_to n us) p → (u : Use) × Contains us u × (u.0 ≡ p) × (u.1 ≡ n)
places_to-sound n us p among =
    let at : List Use = filter (λ (v : Use). nat_eq v.1 n) us in
    let ps : List (List ℕ) = map (λ (v : Use). v.0) at in
    let inside : Contains ps p = once-members ps p (Shuffled-members (sort_texts (once ps)) (once ps)
    (Shuffled-symmetric (once ps) (sort_texts (once ps)) (sorted-shuffled (once ps))) p among) in
    let (u, found, is) = Contains-unmapped (λ (v : Use). v.0) at p inside in
    (u, Contains-unfiltered (λ (v : Use). nat_eq v.1 n) us u found, is, eqb-true u.1 n (passes (λ (v : Use). nat_eq v.1 n) us u found))

pub places_to-none_twice : (n : ℕ) (us : List Use) → NoneTwice (places_to n us)
places_to-none_twice n us =
    let ps : List (List ℕ) = map (λ (v : Use). v.0) (filter (λ (v : Use). nat_eq v.1 n) us) in
    Shuffled-none_twice (once ps) (sort_texts (once ps)) (sorted-shuffled (once ps)) (once-none_twice ps)

-- ---- names

-- the place of a number
abbrev pub place : List Node → ℕ → List ℕ
place nodes = text_of (places_of nodes)

name-among : (nodes : List Node) (k : ℕ) → k < length nodes → Contains (names nodes) (name_at nodes k)
name-among nodes k low = Contains-mapped (λ (n : Node). n.name) nodes (node_at nodes k) (Contains-get_or nodes k no_node low)

-- each name stands at one position
names-apart : (nodes : List Node) → NoneTwice (names nodes) → (j k : ℕ) → j < length nodes → k < length nodes
    → name_at nodes j ≡ name_at nodes k → j ≡ k
names-apart [] none j k low low_ same = absurd (omega (arith, low))
names-apart (n ∷ ns) none zero zero low low_ same = refl
names-apart (n ∷ ns) none zero (suc k) low low_ same = let P : ℕ
    → Type 0 = λ x. Contains (names ns) x in absurd (none.0 (subst P (sym same) (name-among ns k (omega (arith, low_)))))
names-apart (n ∷ ns) none (suc j) zero low low_ same = let P : ℕ
    → Type 0 = λ x. Contains (names ns) x in absurd (none.0 (subst P same (name-among ns j (omega (arith, low)))))
names-apart (n ∷ ns) none (suc j) (suc k) low low_ same = ap suc (names-apart ns none.1 j k (omega (arith, low)) (omega (arith, low_)) same)

module _ (nodes : List Node) (g : Graph) (is : IsGraph g nodes) where
  abbrev count : ℕ
  count = length nodes

  abbrev name : ℕ → ℕ
  name k = name_at nodes k

  -- the graph by positions
  abbrev pub by_position : Graph
  by_position = record {
    nodes = range_with_len 0 (length nodes);
    label = λ i. g.label (name_at nodes i);
    places = λ i j. g.places (name_at nodes i) (name_at nodes j);
  }

  position-moved : IsMoved name by_position g
  position-moved = record {
    nodes =
        let at : ℕ → ℕ = λ k. get_or (names nodes) k 0 in
        let long : length (names nodes) ≡ count = length-map nodes (λ (n : Node). n.name) in
        let all : names nodes ≡ map name (range_with_len 0 count) =
        fill_by_all name (names nodes) count 0 long (λ k low. get_or-map (λ (n : Node). n.name) nodes k no_node 0 low) in
        let P : List ℕ → Type 0 = λ ns. Shuffled ns g.nodes in
        subst P all is.names_are;
    labels = λ n among. refl;
    places = λ m n among among_. refl;
  }

  pub rank-by_name : (k : ℕ) → k < count → final_rank g (name k) ≡ final_rank by_position k
  rank-by_name k low = told-moved name by_position g position-moved k (Contains-range count k low)

  -- ---- labels

  pub labels-ranked : (ranks : List ℕ) → ranks ≡ map (rank_among (map (λ (n : Node). n.label) nodes)) (map (λ (n : Node). n.label) nodes)
      → (k : ℕ) → k < count → rank_at ranks k ≡ rank_by by_position.label by_position.nodes k
  labels-ranked ranks are k low =
      let rows : List (List ℕ) = map (λ (n : Node). n.label) nodes in
      let long : length rows ≡ count = length-map nodes (λ (n : Node). n.label) in
      let at : ℕ → List ℕ = λ j. (node_at nodes j).label in
      let all : rows ≡ map at (range_with_len 0 count) =
      fill_by_all at rows count [] long (λ j within. get_or-map (λ (n : Node). n.label) nodes j no_node [] within) in
      let below : ℕ → Bool = λ j. is_below (at j) (at k) in
      let lower : ℕ → Bool = λ j. is_lt (slice_cmp (slice_cmp nat_cmp) (g.label (name j)) (g.label (name k))) in
      ap (λ (rs : List ℕ). get_or rs k 0) are
      ∙ get_or-map (rank_among rows) rows k [] 0 (omega (arith, low, long))
      ∙ ap (rank_among rows) (get_or-map (λ (n : Node). n.label) nodes k no_node [] low)
      ∙ ap (λ (rs : List (List ℕ)). how_many (λ (other : List ℕ). is_below other (at k)) rs) all
      ∙ count-mapped (λ (other : List ℕ). is_below other (at k)) at (range_with_len 0 count)
      ∙ count-agree below lower (range_with_len 0 count) (λ j among. sym (is.labels j k (range-below count j among) low))

  -- ---- places

  module _ (es ts : List Edge) (ordered : AreOrdered es) (edges : AreEdges nodes es) (ordered_ : AreOrdered ts)
      (turned : (e : Edge) → Contains ts e ↔ Contains (map turned_edge es) e) where
    place-among : (k : ℕ) (u : Use) → k < count → Contains (node_at nodes k).uses u → Contains (places_of nodes) u.0
    place-among k u low among = Contains-flat_map own_places nodes (node_at nodes k) u.0 (Contains-get_or nodes k no_node low)
        (Contains-mapped (λ (v : Use). v.0) (node_at nodes k).uses u among)

    -- what an edge says of the graph
    edge-sound : (n m i : ℕ) → Contains es (n, m, i) → (n < count) × (m < count) × Contains (by_position.places n m) (place nodes i)
        × (number nodes (place nodes i) ≡ i) × ((p : List ℕ) × Contains (places_of nodes) p × (i ≡ number nodes p))
    edge-sound n m i among =
        let (low, low_, found) = edges.sound (n, m, i) among in
        let (u, inside, leads, at) = found in
        let known = place-among n u low inside in
        let back : place nodes i ≡ u.0 = ap (place nodes) at ∙ text-is (places_of nodes) u.0 known in
        let P : List (List ℕ) → Type 0 = λ ps. Contains ps (place nodes i) in
        let Q : List ℕ → Type 0 = λ p. Contains (places_to (name m) (node_at nodes n).uses) p in (
          low,
          low_,
          subst P (sym (is.places n m low low_))
              (subst Q (sym back) (places_to-complete (name m) (node_at nodes n).uses u inside (sym leads))),
          ap (number nodes) back
              ∙ sym at,
          (u.0, known, at),
        )

    edge-complete : (n m : ℕ) (q : List ℕ) → n < count → m < count → Contains (by_position.places n m) q
        → Contains es (n, m, number nodes q) × (place nodes (number nodes q) ≡ q)
    edge-complete n m q low low_ among =
        let P : List (List ℕ) → Type 0 = λ ps. Contains ps q in
        let (u, inside, at, leads) = places_to-sound (name m) (node_at nodes n).uses q (subst P (is.places n m low low_) among) in
        let N : ℕ → Type 0 = λ x. Contains (names nodes) x in
        let (k, low_k, named, edge) = edges.complete n u low inside (subst N (sym leads) (name-among nodes m low_)) in
        let same : k ≡ m = names-apart nodes is.differ k m low_k low_ (named ∙ leads) in
        let E : ℕ → Type 0 = λ j. Contains es (n, j, number nodes q) in
        let F : List ℕ → Type 0 = λ p. Contains es (n, k, number nodes p) in
        let K : List ℕ → Type 0 = λ p. Contains (places_of nodes) p in
        (subst E same (subst F at edge), text-is (places_of nodes) q (subst K at (place-among n u low inside)))

    places-once : (n m : ℕ) → n < count → m < count → NoneTwice (by_position.places n m)
    places-once n m low low_ = let P : List (List ℕ) → Type 0 = NoneTwice in
        subst P (sym (is.places n m low low_)) (places_to-none_twice (name m) (node_at nodes n).uses)

    from-turned : (n m i : ℕ) → Contains ts (n, m, i) → Contains es (m, n, i)
    from-turned n m i among =
        let (e, at, same) = Contains-unmapped turned_edge es (n, m, i) ((turned (n, m, i)).0 among) in
        let P : Edge → Type 0 = λ f. Contains es f in
        subst P (ap turned_edge same) at

    to-turned : (n m i : ℕ) → Contains es (m, n, i) → Contains ts (n, m, i)
    to-turned n m i among = (turned (n, m, i)).1 (Contains-mapped turned_edge es (m, n, i) among)

    onto-edges : (n : ℕ) → n < count → HasEdges (place nodes) (number nodes) count n es (λ m. by_position.places n m)
    onto-edges n low = record {
      once = ordered.once;
      at_once = λ m low_. places-once n m low low_;
      sound = λ m i among. let (l, low_, found, same, rest) = edge-sound n m i among in (low_, found, same);
      complete = λ m q low_ among. edge-complete n m q low low_ among;
    }

    from-edges : (n : ℕ) → n < count → HasEdges (place nodes) (number nodes) count n ts (λ m. by_position.places m n)
    from-edges n low = record {
      once = ordered_.once;
      at_once = λ m low_. places-once m n low_ low;
      sound = λ m i among. let (low_, l, found, same, rest) = edge-sound m n i (from-turned n m i among) in (low_, found, same);
      complete = λ m q low_ among. let (edge, same) = edge-complete m n q low_ low among in (to-turned n m (number nodes q) edge, same);
    }

    pub stands : (uses users : Adjacency) → uses.uses.items ≡ map other_end es → users.uses.items ≡ map other_end ts
        → ((n : ℕ) → n < count → uses_of uses n ≡ map other_end (filter (λ (e : Edge). nat_eq e.0 n) es))
        → ((n : ℕ) → n < count → uses_of users n ≡ map other_end (filter (λ (e : Edge). nat_eq e.0 n) ts))
        → Represents by_position (place nodes) count uses users
    stands uses users all all_ each each_ = record {
      nodes = refl;
      ordered = λ i j known known_.
          let (p, at, same) = numbered i known in
          let (q, at_, same_) = numbered j known_ in
          ap (λ k. slice_cmp nat_cmp (place nodes k) (place nodes j)) same
          ∙ ap (λ k. slice_cmp nat_cmp (place nodes (number nodes p)) (place nodes k)) same_
          ∙ ap (λ (t : List ℕ). slice_cmp nat_cmp t (place nodes (number nodes q))) (text-is (places_of nodes) p at)
          ∙ ap (slice_cmp nat_cmp p) (text-is (places_of nodes) q at_)
          ∙ ranks-ordered (places_of nodes) p q at at_
          ∙ ap (λ k. nat_cmp k (number nodes q)) (sym same) ∙ ap (nat_cmp i) (sym same_);
      onto = λ n low. let P : List (ℕ × ℕ) → Type 0 = λ us. Shuffled (map (placed (place nodes)) us)
          (flat_map (λ m. map (beside m) (by_position.places n m)) (range_with_len 0 count)) in
          subst P (sym (each n low)) (edges-stand (place nodes) (number nodes) count n es (λ m. by_position.places n m) (onto-edges n low));
      from = λ n low. let P : List (ℕ × ℕ) → Type 0 = λ us. Shuffled (map (placed (place nodes)) us)
          (flat_map (λ m. map (beside m) (by_position.places m n)) (range_with_len 0 count)) in
          subst P (sym (each_ n low)) (edges-stand (place nodes) (number nodes) count n ts (λ m. by_position.places m n)
          (from-edges n low));
    }
      where
        numbered : (i : ℕ) → IsPlace uses users i → (p : List ℕ) × Contains (places_of nodes) p × (i ≡ number nodes p)
        numbered i (u, among, same) = elim (Contains-append_cases uses.uses.items users.uses.items u among) [
          | inl h ↦ (let P : List (ℕ × ℕ) → Type 0 = λ us. Contains us u in
              let (e, at, end) = Contains-unmapped other_end es u (subst P all h) in
              let (l, l_, f, s, rest) = edge-sound e.0 e.1 e.2 at in
              let (p, known, numbered_) = rest in
              (p, known, sym same ∙ ap (λ (v : ℕ × ℕ). v.1) (sym end) ∙ numbered_))
          | inr h ↦ (let P : List (ℕ × ℕ) → Type 0 = λ us. Contains us u in
              let (e, at, end) = Contains-unmapped other_end ts u (subst P all_ h) in
              let (l, l_, f, s, rest) = edge-sound e.1 e.0 e.2 (from-turned e.0 e.1 e.2 at) in
              let (p, known, numbered_) = rest in
              (p, known, sym same ∙ ap (λ (v : ℕ × ℕ). v.1) (sym end) ∙ numbered_))
        ]
