use Rattle.std.specs.Prelude.{◌≡◌, ◌<◌, ◌+◌, ◌∷◌, ◌++◌, [], ℕ, List, take}
use Rattle.std.proofs.Common.{arith, rules, ap, sym, subst, ◌∙◌, get_or}
use Rattle.std.proofs.lemmas.List.{get_or-map, length-map, map-append, take_all}
use Rattle.p21_numbering.specs.declared.graph.Node.{Node as Made}
use Rattle.p21_numbering.specs.declared.instances.Instance.{Instance as Code}
use Rattle.p21_numbering.specs.Instances.{Instance, file_instance, file_instances, instance_at, names_of, no_instance}
use Rattle.p21_numbering.specs.Nodes.{Node, held_node, held_nodes, names, no_node}
use Rattle.p21_numbering.specs.NodesOf.{HasKnownParts, IsNodeFor}
use Rattle.p21_numbering.proofs.Gathering.{each-more}
use Rattle.p21_numbering.proofs.LabelRows.{each-at}
use Rattle.p21_numbering.proofs.Walks.{map-more}
use Rattle.p21_numbering.proofs.file_orders.nodes.Goals as goal

pub node-requires : goal.node-requires
node-requires c = each-at (λ (i : Instance). HasKnownParts c.args.schema.now i.typed) file_instance c.args.instances.now c.loop-k.k
    c.index-instances-k.result c.index-instances-k.is c.loop-k-test.true c.requires

pub loop-k-preserved : goal.loop-k-preserved
loop-k-preserved c =
    let s = c.args.schema.now in
    let all : List Code = c.args.instances.now in
    let k : ℕ = c.loop-k.k in
    let one : Code = c.index-instances-k.result in
    let made : Made = c.in_ok-made.made in
    let before : List Made = c.loop-k.nodes.items in
    let pushed : c.push.new.self.items ≡ before ++ made ∷ [] = c.in_ok-push.ensures.items in
    let P : ℕ → Node → Type 0 = λ j node. IsNodeFor s (instance_at (file_instances all) j).name (instance_at (file_instances all) j).typed
    (instance_at (file_instances all) j).heading node in
    let Q : Instance → Type 0 = λ i. IsNodeFor s i.name i.typed i.heading (held_node made) in
    let at : instance_at (file_instances all) k ≡ file_instance one = get_or-map file_instance all k one no_instance c.loop-k-test.true
    ∙ ap file_instance (sym c.index-instances-k.is) in
    let is : P k (held_node made) = subst Q (sym at) c.in_ok-made.ensures.node in
    let R : List Node → Type 0 = λ ns. (j : ℕ) → j < k + 1 → P j (get_or ns j no_node) in
    let nodes_more : held_nodes c.push.new.self.items ≡ held_nodes before ++ held_node made ∷ [] = ap held_nodes pushed
    ∙ map-append held_node before (made ∷ []) in
    record {
      size = search rules;
      names =
          let name : Code → ℕ = λ i. i.name in
          ap names nodes_more ∙ map-append (λ (n : Node). n.name) (held_nodes before) (held_node made ∷ [])
          ∙ ap (λ (n : ℕ). names (held_nodes before) ++ n ∷ []) c.in_ok-made.ensures.name
          ∙ ap (λ (ns : List ℕ). ns ++ one.name ∷ []) c.loop-k.invariant.names
          ∙ sym (ap names_of (map-more file_instance all k one c.index-instances-k.is c.loop-k-test.true)
          ∙ map-append (λ (i : Instance). i.name) (file_instances (take k all)) (file_instance one ∷ []));
      each = subst R (sym nodes_more) (each-more no_node P (held_nodes before) (held_node made) k
          (length-map before held_node ∙ c.loop-k.invariant.size) c.loop-k.invariant.each is);
    }

pub returns-clause-size : goal.returns-clause-size
returns-clause-size c = omega (arith, c.loop-k.invariant.size, c.loop-k-test.false, c.loop-k.auto.k-end)

pub returns-clause-names : goal.returns-clause-names
returns-clause-names c = c.loop-k.invariant.names ∙ ap (λ (is : List Code). names_of (file_instances is))
    (take_all c.loop-k.k c.args.instances.now (omega (arith, c.loop-k-test.false)))

pub returns-clause-each : goal.returns-clause-each
returns-clause-each c k low = c.loop-k.invariant.each k (omega (arith, low, c.loop-k-test.false))
