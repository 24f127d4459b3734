-- The edges of all references to nodes.
use Rattle.std.specs.Prelude.{◌≡◌, ◌↔◌, ℕ, ◌<◌, List, [], Option, Some, None, length, Contains, refl}
use Rattle.std.specs.BTreeMap.{BTreeMap, get}
use Rattle.std.specs.List.{flat_map, range_with_len}
use Rattle.std.specs.Ordering.{nat_cmp}
use Rattle.std.proofs.Common.{ap, sym, subst, ◌∙◌, inl, inr}
use Rattle.p21_spec_basics.proofs.Members.{Contains-none, Contains-first, Contains-cases, Contains-flat_map, Contains-one_of}
use Rattle.p21_spec_file.specs.Sorting.{sort_texts}
use Rattle.p21_spec_numbering.specs.Uses.{Use}
use Rattle.p21_numbering.specs.Arrays.{Edge}
use Rattle.p21_numbering.specs.Edges.{AreEdges, FindsNames, edge_of, edge_to, edges_from, number, places_of}
use Rattle.p21_numbering.specs.Nodes.{Node, name_at, names, node_at}
use Rattle.p21_numbering.specs.Rows.{rank_among}
use Rattle.p21_numbering.proofs.Counts.{Contains-range, range-below}
use Rattle.p21_numbering.proofs.RankedRows.{rank-sorted}

pub edges-are : (nodes : List Node) (found : BTreeMap ℕ ℕ) → FindsNames found nodes → (sorted : List (List ℕ))
    → sorted ≡ sort_texts (places_of nodes)
    → (all es : List Edge) → all ≡ flat_map (edges_from found sorted nodes) (range_with_len 0 (length nodes))
    → ((e : Edge) → Contains es e ↔ Contains all e) → AreEdges nodes es
edges-are nodes found finds sorted is all es all-is members = record { sound = sound; complete = complete }
  where
    from : ℕ → List Edge
    from = edges_from found sorted nodes

    numbered : (p : List ℕ) → rank_among sorted p ≡ number nodes p
    numbered p = ap (λ (ps : List (List ℕ)). rank_among ps p) is ∙ rank-sorted (places_of nodes) p

    IsSound : Edge → Type 0
    IsSound e = (e.0 < length nodes) × (e.1 < length nodes)
        × ((u : Use) × Contains (node_at nodes e.0).uses u × (name_at nodes e.1 ≡ u.1) × (e.2 ≡ number nodes u.0))

    one : (k : ℕ) (u : Use) (e : Edge) → k < length nodes → Contains (node_at nodes k).uses u → (o : Option ℕ) → get nat_cmp found u.1 ≡ o
        → Contains (edge_to k (rank_among sorted u.0) o) e → IsSound e
    one k u e low inside None at among = absurd (Contains-none e among)
    one k u e low inside (Some other) at among = elim (Contains-cases (k, other, rank_among sorted u.0) [] e among) [
      | inl same ↦
          let (low_, leads) = finds.right u.1 other at in
          let own : IsSound (k, other, rank_among sorted u.0) = (low, low_, (u, inside, leads, numbered u.0)) in
          subst IsSound same own
      | inr more ↦ absurd (Contains-none e more)
    ]

    sound : (e : Edge) → Contains es e → IsSound e
    sound e among =
        let P : List Edge → Type 0 = λ fs. Contains fs e in
        let (k, at, inside) = Contains-one_of from (range_with_len 0 (length nodes)) e (subst P all-is ((members e).0 among)) in
        let (u, at_u, made) = Contains-one_of (edge_of found sorted k) (node_at nodes k).uses e inside in
        one k u e (range-below (length nodes) k at) at_u (get nat_cmp found u.1) refl made

    IsComplete : ℕ → Use → Type 0
    IsComplete j u = (k : ℕ) × (k < length nodes) × (name_at nodes k ≡ u.1) × Contains es (j, k, number nodes u.0)

    complete : (j : ℕ) (u : Use) → j < length nodes → Contains (node_at nodes j).uses u → Contains (names nodes) u.1 → IsComplete j u
    complete j u low inside named = by (get nat_cmp found u.1) refl
      where
        by : (o : Option ℕ) → get nat_cmp found u.1 ≡ o → IsComplete j u
        by None at = absurd (finds.all u.1 at named)
        by (Some k) at =
            let (low_, leads) = finds.right u.1 k at in
            let made : Contains (edge_to j (rank_among sorted u.0) (get nat_cmp found u.1)) (j, k, rank_among sorted u.0) =
            let P : Option ℕ → Type 0 = λ o. Contains (edge_to j (rank_among sorted u.0) o) (j, k, rank_among sorted u.0) in
            subst P (sym at) (Contains-first (j, k, rank_among sorted u.0) []) in
            let own : Contains (from j) (j, k, rank_among sorted u.0) =
            Contains-flat_map (edge_of found sorted j) (node_at nodes j).uses u (j, k, rank_among sorted u.0) inside made in
            let among : Contains (flat_map from (range_with_len 0 (length nodes))) (j, k, rank_among sorted u.0) =
            Contains-flat_map from (range_with_len 0 (length nodes)) j (j, k, rank_among sorted u.0)
            (Contains-range (length nodes) j low) own in
            let P : List Edge → Type 0 = λ fs. Contains fs (j, k, rank_among sorted u.0) in
            let Q : ℕ → Type 0 = λ i. Contains es (j, k, i) in
            (k, low_, leads, subst Q (numbered u.0) ((members (j, k, rank_among sorted u.0)).1 (subst P (sym all-is) among)))
