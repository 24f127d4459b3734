use Rattle.std.specs.Prelude.{◌≡◌, ◌<◌, ◌^◌, ℕ, List, Contains, length}
use Rattle.std.proofs.Common.{arith, rules, ap, sym, subst, ◌∙◌}
use Rattle.std.proofs.lemmas.List.{length-map}
use Rattle.p21_spec_numbering.specs.Laws.{IsProper, ranking_of}
use Rattle.p21_spec_numbering.specs.Renamed.{names as names_in}
use Rattle.p21_spec_numbering.proofs.Theorems.{meanings-are_proper}
use Rattle.p21_numbering.specs.declared.graph.Node.{Node as Code}
use Rattle.p21_numbering.specs.declared.ranked.RankedInstance.{RankedInstance}
use Rattle.p21_numbering.specs.declared.standings.Standings.{Standings}
use Rattle.p21_numbering.specs.Arrays.{rank_at}
use Rattle.p21_numbering.specs.Instances.{Instance, file_instance, file_instances}
use Rattle.p21_numbering.specs.Largest.{AreSizes}
use Rattle.p21_numbering.specs.NewNames.{NamesGet}
use Rattle.p21_numbering.specs.Nodes.{HaveRanks, Node, held_node, held_nodes, names}
use Rattle.p21_numbering.specs.NodesOf.{AreNodesOf}
use Rattle.p21_numbering.specs.Ranked.{AreRanked, Ranked, held_instance, held_instances}
use Rattle.p21_numbering.specs.Standing.{IsStanding, standing_of}
use Rattle.p21_numbering.proofs.FileOrders.{nodes-are, ranked-are}
use Rattle.p21_numbering.proofs.StandingsOf.{rank-low, standing-is}
use Rattle.p21_numbering.proofs.file_orders.file_order.Goals as goal

pub new-requires-clause-size : goal.new-requires-clause-size
new-requires-clause-size c = ap (λ (rs : List ℕ). length rs) c.deref-3.ensures.value ∙ c.in_ok-ranks.ensures.size
    ∙ ap (λ (ns : List Code). length ns) (c.deref.ensures.value ∙ sym c.deref-2.ensures.value)

pub new-requires-clause-within : goal.new-requires-clause-within
new-requires-clause-within c =
    let P : List ℕ → Type 0 = λ rs. (k : ℕ) → k < length rs
    → rank_at rs k < length rs in subst P (sym c.deref-3.ensures.value) c.in_ok-ranks.ensures.within

pub returns : goal.returns
returns c bytes m reads are =
    let s = c.args.schema.now in
    let proper : IsProper m = meanings-are_proper s c.well_formed-2.ensures bytes m reads in
    let all : List Instance = file_instances c.args.instances.now in
    let size : length all ≡ length c.args.instances.now = length-map c.args.instances.now file_instance in
    let nodes : List Node = held_nodes c.in_ok-nodes.nodes.items in
    let ranks : List ℕ = c.in_ok-ranks.ranks.items in
    let st : Standings = c.in_ok-standings.standings in
    let are_nodes : AreNodesOf s m nodes = nodes-are s m all are nodes c.in_ok-nodes.ensures.names
    (λ k low. c.in_ok-nodes.ensures.each k (omega (arith, low, size))) in
    let A : List Code → Type 0 = λ ns. AreNodesOf s m (held_nodes ns) in
    let H : List Code → Type 0 = λ ns. HaveRanks (ranking_of s m) (held_nodes ns) ranks in
    let have : HaveRanks (ranking_of s m) nodes ranks =
    subst H c.deref.ensures.value (c.in_ok-ranks.ensures.ranking s m proper.0 (subst A (sym c.deref.ensures.value) are_nodes)) in
    let long : length ranks ≡ length nodes = c.in_ok-ranks.ensures.size ∙ ap (λ (ns : List Code). length ns) c.deref.ensures.value
    ∙ sym (length-map c.in_ok-nodes.nodes.items held_node) in
    let F : List Code → Type 0 = λ ns. NamesGet st.ranks (names (held_nodes ns)) c.deref-3.result.now in
    let G : List ℕ → Type 0 = λ rs. NamesGet st.ranks (names nodes) rs in
    let found : NamesGet st.ranks (names nodes) ranks =
    subst G c.deref-3.ensures.value (subst F c.deref-2.ensures.value c.in_ok-standings.ensures.ranks) in
    let Z : List ℕ → Type 0 = λ rs. AreSizes (length rs) (length rs) rs st.sizes.items in
    let sizes : AreSizes (length ranks) (length ranks) ranks st.sizes.items =
    subst Z c.deref-3.ensures.value c.in_ok-standings.ensures.sizes in
    let standing : IsStanding (ranking_of s) m (standing_of st) =
    standing-is (ranking_of s) m proper.0 nodes are_nodes.names_are ranks long c.in_ok-ranks.ensures.within have st found sizes in
    let rs : List Ranked = held_instances c.in_ok-ranked.ranked.items in
    let rs_long : length rs ≡ length all = length-map c.in_ok-ranked.ranked.items held_instance ∙ c.in_ok-ranked.ensures.size ∙ sym size in
    let small : (n : ℕ) → Contains (names_in m) n → ranking_of s m n < 2 ^ 64 = λ n among.
    (let low = rank-low (ranking_of s) m proper.0 nodes are_nodes.names_are ranks long c.in_ok-ranks.ensures.within have st found sizes n
    among in
    let below : ranking_of s m n < length c.args.instances.now =
    omega (arith, low, long, c.in_ok-nodes.ensures.size, length-map c.in_ok-nodes.nodes.items held_node) in
    search (rules, below)) in
    let ranked : AreRanked s (ranking_of s) m rs = ranked-are s m all are (ranking_of s) proper (standing_of st) standing rs rs_long
    (λ k low. c.in_ok-ranked.ensures.each k (omega (arith, low, size))) small in
    let R : List RankedInstance → Type 0 = λ xs. AreRanked s (ranking_of s) m (held_instances xs) in
    c.order.ensures s c.well_formed-2.ensures bytes m reads (ranking_of s) (subst R (sym c.deref-4.ensures.value) ranked)
