use Rattle.std.specs.List.{flat_map, range_with_len}
use Rattle.std.specs.Prelude.{◌≡◌, length}
use Rattle.std.proofs.Common.{ap, sym, ◌∙◌}
use Rattle.std.proofs.lemmas.List.{length-map}
use Rattle.p21_spec_file.specs.Sorting.{sort_texts}
use Rattle.p21_numbering.specs.Edges.{edges_from, places_of}
use Rattle.p21_numbering.specs.Nodes.{held_node, held_nodes}
use Rattle.p21_numbering.specs.Rows.{lent_rows}
use Rattle.p21_numbering.proofs.FoundEdges.{edges-are}
use Rattle.p21_numbering.proofs.RankedRows.{sorted_rows-rise}
use Rattle.p21_numbering.proofs.edges.edges.Goals as goal

pub all_edges-requires : goal.all_edges-requires
all_edges-requires c = sorted_rows-rise c.deref-2.result.now (lent_rows c.deref.result.now)
    (ap lent_rows c.deref-2.ensures.value ∙ c.in_ok-sorted.ensures)

pub returns-clause-edges : goal.returns-clause-edges
returns-clause-edges c =
    let sorted : lent_rows c.deref-2.result.now ≡ sort_texts (places_of (held_nodes c.args.nodes.now)) =
    ap lent_rows c.deref-2.ensures.value ∙ c.in_ok-sorted.ensures ∙ ap (λ ps. sort_texts (lent_rows ps)) c.deref.ensures.value
    ∙ ap sort_texts c.in_ok-places.ensures in
    let long : length c.args.nodes.now ≡ length (held_nodes c.args.nodes.now) = sym (length-map c.args.nodes.now held_node) in
    edges-are (held_nodes c.args.nodes.now) c.in_ok-positions.positions c.in_ok-positions.ensures (lent_rows c.deref-2.result.now) sorted
    c.in_ok-edges.edges.items c.in_order.result.items
    (c.in_ok-edges.ensures ∙ ap (λ k. flat_map (edges_from c.in_ok-positions.positions (lent_rows c.deref-2.result.now)
    (held_nodes c.args.nodes.now)) (range_with_len 0 k)) long) c.in_order.ensures.members
