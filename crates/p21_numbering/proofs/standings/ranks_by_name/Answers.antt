use Rattle.std.specs.BTreeMap.{Updates}
use Rattle.std.specs.Ordering.{nat_cmp}
use Rattle.std.specs.Prelude.{ℕ, List, Some}
use Rattle.std.proofs.Common.{arith, sym, subst, get_or}
use Rattle.std.proofs.lemmas.List.{length-map}
use Rattle.p21_numbering.specs.declared.graph.Node.{Node as Code}
use Rattle.p21_numbering.specs.Nodes.{Node, held_node, held_nodes, names}
use Rattle.p21_numbering.specs.Arrays.{rank_at}
use Rattle.p21_numbering.proofs.GivenNames.{get-more}
use Rattle.p21_numbering.proofs.StandingsOf.{name-at}
use Rattle.p21_numbering.proofs.standings.ranks_by_name.Goals as goal

pub loop-k-preserved : goal.loop-k-preserved
loop-k-preserved c =
    let nodes : List Code = c.args.nodes.now in
    let k : ℕ = c.loop-k.k in
    let V : ℕ → Type 0 = λ n. Updates nat_cmp c.loop-k.by_name c.insert.new.self n (Some (get_or c.args.ranks.now k 0)) in
    get-more c.loop-k.by_name c.insert.new.self (names (held_nodes nodes)) (rank_at c.args.ranks.now) k
    (omega (arith, c.loop-k-test.true, length-map nodes held_node, length-map (held_nodes nodes) (λ (n : Node). n.name)))
    (subst V (sym (name-at nodes k c.index-nodes-k.result c.loop-k-test.true)) c.in_ok-insert.ensures.updates) c.loop-k.invariant

pub returns : goal.returns
returns c once j low =
    c.loop-k.invariant once j (omega (
      arith,
      low,
      c.loop-k-test.false,
      length-map c.args.nodes.now held_node,
      length-map
          (held_nodes c.args.nodes.now) (λ (n : Node). n.name),
    ))
