use Rattle.std.specs.Prelude.{◌≡◌, ◌<◌, ◌+◌, ◌∷◌, ◌++◌, [], ℕ, List, length}
use Rattle.std.proofs.Common.{arith, rules, ap, sym, subst, ◌∙◌}
use Rattle.std.proofs.lemmas.List.{get_or-map, get_or_append_left, length-map, map-append}
use Rattle.p21_spec_numbering.specs.Ordered.{position}
use Rattle.p21_numbering.specs.declared.graph.Node.{Node as Made}
use Rattle.p21_numbering.specs.declared.instances.Instance.{Instance as Code}
use Rattle.p21_numbering.specs.Instances.{Instance, file_instance, file_instances, instance_at, names_of, no_instance}
use Rattle.p21_numbering.specs.NewNames.{new_name}
use Rattle.p21_numbering.specs.Nodes.{Node, held_node, held_nodes, no_node, node_at}
use Rattle.p21_numbering.specs.NodesOf.{HasKnownParts}
use Rattle.p21_numbering.proofs.LabelRows.{each-at}
use Rattle.p21_pairing.specs.Population.{IsMovedNode}
use Rattle.p21_pairing.proofs.JointNodes.{behind-more}
use Rattle.p21_pairing.proofs.population.with_nodes.Goals as goal

pub node-requires : goal.node-requires
node-requires c = each-at (λ (i : Instance). HasKnownParts c.args.schema.now i.typed) file_instance c.args.instances.now c.loop-k.k
    c.index-instances-k.result c.index-instances-k.is c.loop-k-test.true c.requires

pub loop-k-preserved : goal.loop-k-preserved
loop-k-preserved c =
    let all : List Code = c.args.instances.now in
    let k : ℕ = c.loop-k.k in
    let one : Code = c.index-instances-k.result in
    let made : Made = c.in_ok-made.made in
    let moved : Made = c.in_ok-moved.moved in
    let before : List Made = c.loop-k.more.items in
    let start : ℕ = length c.args.nodes.items in
    let f : ℕ → ℕ = new_name c.in_ok-positions.positions in
    let nodes_more : held_nodes c.push.new.self.items ≡ held_nodes before ++ held_node moved ∷ [] = ap held_nodes c.in_ok-push.ensures.items
    ∙ map-append held_node before (moved ∷ []) in
    let long : length (held_nodes before) ≡ start + k = length-map before held_node ∙ c.loop-k.invariant.size in
    let P : ℕ → Node → Type 0 = λ j node. IsMovedNode c.args.schema.now f (instance_at (file_instances all) j) node in
    let Q : Instance → Type 0 = λ i. IsMovedNode c.args.schema.now f i (held_node moved) in
    let at : instance_at (file_instances all) k ≡ file_instance one = get_or-map file_instance all k one no_instance c.loop-k-test.true
    ∙ ap file_instance (sym c.index-instances-k.is) in
    let is : Q (file_instance one) = record {
      own = held_node made;
      own_is = c.in_ok-made.ensures.node;
      own_name = c.in_ok-made.ensures.name;
      name_is = c.in_ok-moved.ensures.name ∙ ap f c.in_ok-made.ensures.name;
      label_is = c.in_ok-moved.ensures.label;
      uses_are = c.in_ok-moved.ensures.uses;
    } in
    let R : List Node → Type 0 = λ ns. (j : ℕ) → j < k + 1 → P j (node_at ns (start + j)) in
    let K : List Node → Type 0 = λ ns. (j : ℕ) → j < start → node_at ns j ≡ node_at (held_nodes c.args.nodes.items) j in
    record {
      size = search rules;
      kept = subst K (sym nodes_more) (λ j low. get_or_append_left (held_nodes before) (held_node moved ∷ []) no_node j
          (omega (arith, low, long)) ∙ c.loop-k.invariant.kept j low);
      each = subst R (sym nodes_more) (behind-more P (held_nodes before) (held_node moved) start k long c.loop-k.invariant.each
          (subst Q (sym at) is));
    }

pub returns-clause-more : goal.returns-clause-more
returns-clause-more c =
    let start : c.len.result ≡ length c.args.nodes.items = omega (arith, c.len.ensures, c.args.nodes.ok.0) in
    record {
      moved = new_name c.in_ok-positions.positions;
      positions = λ once n among. c.in_ok-positions.ensures once n among
          ∙ ap (λ k. k + position (names_of (file_instances c.args.instances.now)) n) start;
      each = λ k low. c.loop-k.invariant.each k (omega (arith, low, c.loop-k-test.false, length-map c.args.instances.now file_instance));
    }
