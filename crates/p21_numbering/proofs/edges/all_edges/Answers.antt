use Rattle.std.specs.List.{flat_map, range_with_len}
use Rattle.std.specs.Prelude.{◌≡◌, ◌++◌, ℕ, List}
use Rattle.std.proofs.Common.{ap, sym, ◌∙◌}
use Rattle.std.proofs.lemmas.List.{get_or-map}
use Rattle.p21_spec_numbering.specs.Uses.{Use}
use Rattle.p21_numbering.specs.declared.graph.Node.{Node as Code}
use Rattle.p21_numbering.specs.Arrays.{Edge}
use Rattle.p21_numbering.specs.Edges.{edge_of, edges_from}
use Rattle.p21_numbering.specs.Nodes.{Node, held_node, held_nodes, no_node, node_at}
use Rattle.p21_numbering.specs.PlacedUses.{held_uses}
use Rattle.p21_numbering.specs.Rows.{lent_rows}
use Rattle.p21_numbering.proofs.PartSizes.{range-more}
use Rattle.p21_numbering.proofs.Walks.{flat_map-last}
use Rattle.p21_numbering.proofs.edges.all_edges.Goals as goal

pub loop-k-preserved : goal.loop-k-preserved
loop-k-preserved c =
    let all : List Code = c.args.nodes.now in
    let k : ℕ = c.loop-k.k in
    let places : List (List ℕ) = lent_rows c.args.places.now in
    let from : ℕ → List Edge = edges_from c.args.positions.now places (held_nodes all) in
    let uses : held_uses c.deref.result.now ≡ (node_at (held_nodes all) k).uses =
    ap held_uses c.deref.ensures.value ∙ ap (λ (n : Node). n.uses)
    (sym (get_or-map held_node all k c.index-nodes-k.result no_node c.loop-k-test.true)) in
    c.in_ok-edges.ensures ∙ ap (λ (us : List Use). c.loop-k.edges.items ++ flat_map (edge_of c.args.positions.now places k) us) uses
    ∙ ap (λ (es : List Edge). es ++ from k) c.loop-k.invariant
    ∙ sym (ap (flat_map from) (range-more k) ∙ flat_map-last from (range_with_len 0 k) k)
