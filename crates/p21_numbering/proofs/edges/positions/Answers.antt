use Rattle.std.specs.BTreeMap.{Updates}
use Rattle.std.specs.Ordering.{nat_cmp}
use Rattle.std.specs.Prelude.{◌≡◌, ℕ, List, Some, length, take}
use Rattle.std.proofs.Common.{arith, sym, subst, ◌∙◌}
use Rattle.std.proofs.lemmas.List.{length-map, length-take-le}
use Rattle.p21_numbering.specs.declared.graph.Node.{Node as Code}
use Rattle.p21_numbering.specs.Edges.{FindsNames}
use Rattle.p21_numbering.specs.Nodes.{Node, held_node, held_nodes}
use Rattle.p21_numbering.proofs.Walks.{map-more, names-more}
use Rattle.p21_numbering.proofs.edges.positions.Goals as goal

pub loop-k-preserved : goal.loop-k-preserved
loop-k-preserved c =
    let all : List Code = c.args.nodes.now in
    let k : ℕ = c.loop-k.k in
    let long : k ≡ length (held_nodes (take k all)) = sym
    (length-map (take k all) held_node ∙ length-take-le k all (omega (arith, c.loop-k-test.true))) in
    let U : Code → Type 0 = λ n. Updates nat_cmp c.loop-k.positions c.insert.new.self n.name (Some k) in
    let P : List Node → Type 0 = λ ns. FindsNames c.insert.new.self ns in
    subst P (sym (map-more held_node all k c.index-nodes-k.result c.index-nodes-k.is c.loop-k-test.true))
    (names-more c.loop-k.positions c.insert.new.self (held_nodes (take k all)) (held_node c.index-nodes-k.result) k long
    c.loop-k.invariant (subst U (sym c.index-nodes-k.is) c.in_ok-insert.ensures.updates))
