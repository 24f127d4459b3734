use Rattle.std.specs.Prelude.{◌≡◌, ◌↔◌, ◌<◌, ℕ, List, Contains, Result, Ok, Err, IfOk, filter, length, map, nat_eq}
use Rattle.std.proofs.Common.{arith, ap, sym, subst, ◌∙◌}
use Rattle.std.proofs.lemmas.List.{length-map}
use Rattle.std.proofs.lemmas.Result.{IfOk-weaker}
use Rattle.p21_spec_basics.proofs.Members.{Contains-unmapped}
use Rattle.p21_numbering.specs.Arrays.{AreCounted, Edge, Represents, other_end, rank_at, uses_of}
use Rattle.p21_numbering.specs.Edges.{turned_edge}
use Rattle.p21_numbering.specs.Nodes.{Node, held_node, held_nodes}
use Rattle.p21_numbering.specs.Rows.{lent_rows, rank_among}
use Rattle.p21_spec_numbering.specs.Numbered.{graph_of}
use Rattle.p21_numbering.proofs.FileGraphs.{file-graph}
use Rattle.p21_numbering.proofs.Graphs.{by_position, labels-ranked, place, rank-by_name, stands}
use Rattle.p21_numbering.proofs.Telling.{ranks-long, ranks-within}
use Rattle.p21_numbering.proofs.ToldRanks.{rows-counted}
use Rattle.p21_numbering.proofs.graph.ranks.Goals as goal

pub new-requires-clause-within : goal.new-requires-clause-within
new-requires-clause-within c e among =
    let P : List Edge → Type 0 = λ es. Contains es e in
    let low = (c.in_ok-edges.ensures.edges.sound e (subst P c.deref-3.ensures.value among)).1 in
    omega (arith, low, length-map c.args.nodes.now held_node)

pub new-requires-2-clause-within : goal.new-requires-2-clause-within
new-requires-2-clause-within c e among =
    let P : List Edge → Type 0 = λ es. Contains es e in
    let Q : List Edge → Type 0 = λ es. Contains (map turned_edge es) e in
    let (f, at, is) = Contains-unmapped turned_edge c.in_ok-edges.edges.items e
    (subst Q c.deref-2.ensures.value ((c.in_ok-turned.ensures.members e).0 (subst P c.deref-4.ensures.value among))) in
    let low = (c.in_ok-edges.ensures.edges.sound f at).0 in
    let R : Edge → Type 0 = λ d. d.1 < length c.args.nodes.now in
    subst R is (omega (arith, low, length-map c.args.nodes.now held_node))

pub final_ranks-requires-clause-within : goal.final_ranks-requires-clause-within
final_ranks-requires-clause-within c n low =
    let rows : List (List ℕ) = lent_rows c.deref.result.now in
    let long = ranks-long rows c.in_ok-labelled.labelled.items c.in_ok-labelled.ensures in
    let within = ranks-within rows c.in_ok-labelled.labelled.items c.in_ok-labelled.ensures n (omega (arith, low, long)) in
    omega (arith, within, long)

pub final_ranks-requires-clause-counted : goal.final_ranks-requires-clause-counted
final_ranks-requires-clause-counted c =
    let rows : List (List ℕ) = lent_rows c.deref.result.now in
    let long = ranks-long rows c.in_ok-labelled.labelled.items c.in_ok-labelled.ensures in
    let P : ℕ → Type 0 = λ k. AreCounted k (rank_at c.in_ok-labelled.labelled.items) in
    subst P (sym long) (rows-counted rows c.in_ok-labelled.labelled.items c.in_ok-labelled.ensures)

pub returns-clause-ranks : goal.returns-clause-ranks
returns-clause-ranks c =
    IfOk-weaker c.final_ranks.result _ _ (λ found ended g is k low.
    let nodes : List Node = held_nodes c.args.nodes.now in
    let size : length nodes ≡ length c.args.nodes.now = length-map c.args.nodes.now held_node in
    let rows : lent_rows c.deref.result.now ≡ map (λ (n : Node). n.label) nodes = ap lent_rows c.deref.ensures.value
    ∙ c.in_ok-labels.ensures in
    let are = c.in_ok-labelled.ensures ∙ ap (λ (rs : List (List ℕ)). map (rank_among rs) rs) rows in
    let long : length c.in_ok-labelled.labelled.items ≡ length nodes =
    ranks-long (lent_rows c.deref.result.now) c.in_ok-labelled.labelled.items c.in_ok-labelled.ensures ∙ ap length rows
    ∙ length-map nodes (λ (n : Node). n.label) in
    let es : List Edge = c.in_ok-edges.edges.items in
    let ts : List Edge = c.in_ok-turned.turned.items in
    let T : List Edge → Type 0 = λ fs. (e : Edge) → Contains ts e ↔ Contains (map turned_edge fs) e in
    let U : List Edge → Type 0 = λ fs. (n : ℕ) → n < length c.args.nodes.now
    → uses_of c.in_ok-uses.uses n ≡ map other_end (filter (λ (e : Edge). nat_eq e.0 n) fs) in
    let V : List Edge → Type 0 = λ fs. (n : ℕ) → n < length c.args.nodes.now
    → uses_of c.in_ok-users.users n ≡ map other_end (filter (λ (e : Edge). nat_eq e.0 n) fs) in
    let each : U es = subst U c.deref-3.ensures.value c.in_ok-uses.ensures.each in
    let each_ : V ts = subst V c.deref-4.ensures.value c.in_ok-users.ensures.each in
    let whole : Represents (by_position nodes g is) (place nodes) (length nodes) c.in_ok-uses.uses c.in_ok-users.users =
    stands nodes g is es ts c.in_ok-edges.ensures.ordered c.in_ok-edges.ensures.edges c.in_ok-turned.ensures.ordered
    (subst T c.deref-2.ensures.value c.in_ok-turned.ensures.members) c.in_ok-uses.uses c.in_ok-users.users
    (c.in_ok-uses.ensures.uses ∙ ap (map other_end) c.deref-3.ensures.value)
    (c.in_ok-users.ensures.uses ∙ ap (map other_end) c.deref-4.ensures.value)
    (λ n below. each n (omega (arith, below, size))) (λ n below. each_ n (omega (arith, below, size))) in
    let S : ℕ → Type 0 = λ count. Represents (by_position nodes g is) (place nodes) count c.in_ok-uses.uses c.in_ok-users.users in
    ended (by_position nodes g is) (place nodes) (subst S (sym long) whole)
    (λ n below. labels-ranked nodes g is c.in_ok-labelled.labelled.items are n (omega (arith, below, long))) k
    (omega (arith, low, long, size))
    ∙ sym (rank-by_name nodes g is k (omega (arith, low, size)))) c.final_ranks.ensures.ended

pub returns-clause-ranking : goal.returns-clause-ranking
returns-clause-ranking c =
    IfOk-weaker c.final_ranks.result _ _ (λ found each s m whole_ are k low. each (graph_of s m)
    (file-graph s m whole_ (held_nodes c.args.nodes.now) are) k low) (returns-clause-ranks c)

both-ok : {X Y : Type 0} (r : Result X Y) (P Q : X → Type 0) → IfOk r P → IfOk r Q → IfOk r (λ x. P x × Q x)
both-ok (Ok x) P Q first second = (first, second)
both-ok (Err e) P Q first second = tt

pub returns-clause-within : goal.returns-clause-within
returns-clause-within c =
    let all : List ℕ = c.in_ok-labelled.labelled.items in
    IfOk-weaker c.final_ranks.result _ _ (λ found (size, within) k low.
    (let below = within k (omega (arith, low, size)) in omega (arith, below, size)))
    (both-ok c.final_ranks.result (λ found. length found.items ≡ length all)
    (λ found. (k : ℕ) → k < length all → rank_at found.items k < length all) c.final_ranks.ensures.size c.final_ranks.ensures.within)
