use Rattle.std.specs.Prelude.{◌≡◌, ◌+◌, ℕ, List, length}
use Rattle.std.proofs.Common.{arith, ap, sym, subst}
use Rattle.std.proofs.lemmas.List.{length-map}
use Rattle.p21_numbering.specs.declared.graph.Node.{Node as Made}
use Rattle.p21_numbering.specs.Instances.{Instance, file_instance, file_instances, instance_at}
use Rattle.p21_numbering.specs.Nodes.{Node, held_nodes}
use Rattle.p21_pairing.specs.Population.{AreMovedNodes, IsMovedNode}
use Rattle.p21_pairing.proofs.population.joint_nodes.Goals as goal

pub returns-clause-size : goal.returns-clause-size
returns-clause-size c =
    let none : length c.new.result.items ≡ 0 = ap (λ (ns : List Made). length ns) c.new.ensures.items in
    omega (arith, none, c.in_ok-nodes.ensures.size, c.in_ok-all.ensures.size)

pub returns-clause-first : goal.returns-clause-first
returns-clause-first c =
    let none : length c.new.result.items ≡ 0 = ap (λ (ns : List Made). length ns) c.new.ensures.items in
    let F : List Instance = file_instances c.args.first.now in
    let P : ℕ → Type 0 = λ n. AreMovedNodes c.args.schema.now F n (held_nodes c.in_ok-nodes.nodes.items) in
    let own : AreMovedNodes c.args.schema.now F 0 (held_nodes c.in_ok-nodes.nodes.items) = subst P none c.in_ok-nodes.ensures.more in
    record {
      moved = own.moved;
      positions = own.positions;
      each = λ k low.
          let Q : Node → Type 0 = λ n. IsMovedNode c.args.schema.now own.moved (instance_at F k) n in
          subst Q (sym (c.in_ok-all.ensures.kept (0 + k) (omega
          (arith, low, none, c.in_ok-nodes.ensures.size, length-map c.args.first.now file_instance)))) (own.each k low);
    }

pub returns-clause-second : goal.returns-clause-second
returns-clause-second c =
    let none : length c.new.result.items ≡ 0 = ap (λ (ns : List Made). length ns) c.new.ensures.items in
    let size : length c.in_ok-nodes.nodes.items ≡ length c.args.first.now = omega (arith, none, c.in_ok-nodes.ensures.size) in
    let P : ℕ → Type 0 = λ n. AreMovedNodes c.args.schema.now (file_instances c.args.second.now) n (held_nodes c.in_ok-all.all.items) in
    subst P size c.in_ok-all.ensures.more
