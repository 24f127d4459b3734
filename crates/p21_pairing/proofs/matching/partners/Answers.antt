use Rattle.std.specs.Prelude.{◌≡◌, ◌+◌, ℕ, List, Option, length}
use Rattle.std.proofs.Common.{arith, sym, subst}
use Rattle.std.proofs.lemmas.List.{length-map}
use Rattle.p21_spec_file.specs.File.{FileMeaning}
use Rattle.p21_spec_numbering.proofs.Theorems.{meanings-are_proper}
use Rattle.p21_spec_numbering.specs.Laws.{IsProper, ranking_of}
use Rattle.p21_numbering.specs.declared.graph.Node.{Node as Code}
use Rattle.p21_numbering.specs.Instances.{Instance, file_instance, file_instances}
use Rattle.p21_numbering.specs.Nodes.{HaveRanks, Node, held_node, held_nodes}
use Rattle.p21_numbering.specs.NodesOf.{AreNodesOf}
use Rattle.p21_pairing.specs.Left.{AreMatched}
use Rattle.p21_pairing.specs.Population.{AreJointRanks, AreMovedNodes}
use Rattle.p21_pairing.proofs.JointNodes.{joint-ranks}
use Rattle.p21_pairing.proofs.Matched.{is-pairing}
use Rattle.p21_pairing.proofs.MorePairs.{below-some}
use Rattle.p21_pairing.proofs.matching.partners.Goals as goal

pub returns-clause-within : goal.returns-clause-within
returns-clause-within c i j at =
    let low = below-some c.in_ok-found.found.owners.items j i (c.in_ok-found.ensures.pairs.there i j at) in
    omega (arith, low, c.in_ok-found.ensures.as_many_owners)

pub returns-clause-pairing : goal.returns-clause-pairing
returns-clause-pairing c bytes others a b reads reads_ are are_ f named =
    let s = c.args.schema.now in
    let proper : IsProper a = meanings-are_proper s c.well_formed-2.ensures bytes a reads in
    let proper_ : IsProper b = meanings-are_proper s c.well_formed-2.ensures others b reads_ in
    let first : List Instance = file_instances c.args.first.now in
    let second : List Instance = file_instances c.args.second.now in
    let size : length first ≡ length c.args.first.now = length-map c.args.first.now file_instance in
    let size_ : length second ≡ length c.args.second.now = length-map c.args.second.now file_instance in
    let nodes : List Node = held_nodes c.in_ok-nodes.nodes.items in
    let ranks : List ℕ = c.in_ok-ranks.ranks.items in
    let kinds : List ℕ = c.in_ok-kinds.kinds.items in
    let ps : List (Option ℕ) = c.in_ok-found.found.partners.items in
    let os : List (Option ℕ) = c.in_ok-found.found.owners.items in
    let long : length nodes ≡ length first + length second =
    omega (arith, length-map c.in_ok-nodes.nodes.items held_node, c.in_ok-nodes.ensures.size, size, size_) in
    let N : ℕ → Type 0 = λ n. AreMovedNodes s second n nodes in
    let moved : AreMovedNodes s second (length first) nodes = subst N (sym size) c.in_ok-nodes.ensures.second in
    let A : FileMeaning → List Code → Type 0 = λ m ns. AreNodesOf s m (held_nodes ns) in
    let H : FileMeaning → List Code → Type 0 = λ m ns. HaveRanks (ranking_of s m) (held_nodes ns) ranks in
    let have : (m : FileMeaning) → IsProper m → AreNodesOf s m nodes → HaveRanks (ranking_of s m) nodes ranks = λ m proper_m are_nodes.
    subst (H m) c.deref.ensures.value (c.in_ok-ranks.ensures.ranking s m proper_m.0 (subst (A m) (sym c.deref.ensures.value) are_nodes)) in
    let joint : AreJointRanks (ranking_of s) a b first second ranks =
    joint-ranks s a b proper proper_ first second are are_ nodes long c.in_ok-nodes.ensures.first moved ranks have in
    let R : List ℕ → Type 0 = λ rs. AreMatched rs c.deref-4.result.now (length c.args.first.now) (length c.args.second.now) ps os in
    let K : List ℕ → Type 0 = λ ks. AreMatched ranks ks (length c.args.first.now) (length c.args.second.now) ps os in
    let F : ℕ → Type 0 = λ n. AreMatched ranks kinds n (length c.args.second.now) ps os in
    let S : ℕ → Type 0 = λ n. AreMatched ranks kinds (length first) n ps os in
    let matched : AreMatched ranks kinds (length first) (length second) ps os =
    subst S (sym size_) (subst F (sym size) (subst K c.deref-4.ensures.value (subst R c.deref-3.ensures.value c.in_ok-found.ensures))) in
    is-pairing (ranking_of s) a b proper proper_ first second are are_ ranks kinds joint c.in_ok-kinds.ensures ps os matched f named
