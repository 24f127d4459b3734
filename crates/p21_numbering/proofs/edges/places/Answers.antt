use Rattle.std.specs.Prelude.{◌≡◌, ◌++◌, ℕ, List, map, take}
use Rattle.std.proofs.Common.{ap, sym, ◌∙◌}
use Rattle.p21_spec_numbering.specs.Uses.{Use}
use Rattle.p21_numbering.specs.declared.graph.Node.{Node as Code}
use Rattle.p21_numbering.specs.Edges.{own_places, places_of}
use Rattle.p21_numbering.specs.Nodes.{held_node, held_nodes}
use Rattle.p21_numbering.specs.PlacedUses.{held_uses}
use Rattle.p21_numbering.specs.Rows.{lent_rows}
use Rattle.p21_numbering.proofs.Walks.{flat_map-last, map-more}
use Rattle.p21_numbering.proofs.edges.places.Goals as goal

pub loop-node-preserved : goal.loop-node-preserved
loop-node-preserved c =
    let all : List Code = c.args.nodes.now in
    let k : ℕ = c.loop-node.node-index in
    let first : lent_rows c.in_ok-places.places.items ≡ lent_rows c.loop-node.places.items ++ own_places (held_node c.node-item.result) =
    c.in_ok-places.ensures ∙ ap (λ us. lent_rows c.loop-node.places.items ++ map (λ (u : Use). u.0) (held_uses us)) c.deref.ensures.value in
    first ∙ ap (λ (ps : List (List ℕ)). ps ++ own_places (held_node c.node-item.result)) c.loop-node.invariant
    ∙ sym (ap places_of (map-more held_node all k c.node-item.result c.node-item.is c.loop-node-test.true)
    ∙ flat_map-last own_places (held_nodes (take k all)) (held_node c.node-item.result))
