use Rattle.std.specs.BTreeMap.{Updates}
use Rattle.std.specs.Ordering.{nat_cmp}
use Rattle.std.specs.Prelude.{◌≡◌, ◌<◌, ℕ, List, [], ◌∷◌, Some, length, map, take}
use Rattle.std.proofs.Common.{arith, ap, sym, subst, ◌∙◌}
use Rattle.std.proofs.lemmas.List.{length-map, length-take-le, map-append, take_all, take_more}
use Rattle.p21_numbering.specs.Edges.{FindsNames}
use Rattle.p21_numbering.specs.Nodes.{Node}
use Rattle.p21_numbering.specs.Ordering.{named_node}
use Rattle.p21_numbering.specs.Ranked.{Ranked, held_instance, held_instances, no_instance, ranked_at}
use Rattle.p21_numbering.proofs.Walks.{names-more}
use Rattle.p21_numbering.proofs.orders.positions.Goals as goal

pub loop-k-preserved : goal.loop-k-preserved
loop-k-preserved c =
    let all : List Ranked = held_instances c.args.instances.now in
    let k : ℕ = c.loop-k.k in
    let low : k < length all = omega (arith, c.loop-k-test.true, length-map c.args.instances.now held_instance) in
    let long : k ≡ length (map named_node (take k all)) =
    sym (length-map (take k all) named_node ∙ length-take-le k all (omega (arith, low))) in
    let more = ap (map named_node) (take_more all k no_instance low) ∙ map-append named_node (take k all) (ranked_at all k ∷ []) in
    let U : Ranked → Type 0 = λ r. Updates nat_cmp c.loop-k.positions c.insert.new.self r.name (Some k) in
    let P : List Node → Type 0 = λ ns. FindsNames c.insert.new.self ns in
    subst P (sym more) (names-more c.loop-k.positions c.insert.new.self (map named_node (take k all)) (named_node (ranked_at all k)) k long
    c.loop-k.invariant (subst U c.at.ensures c.in_ok-insert.ensures.updates))

pub returns : goal.returns
returns c =
    let all : List Ranked = held_instances c.args.instances.now in
    let P : List Ranked → Type 0 = λ rs. FindsNames c.loop-k.positions (map named_node rs) in
    subst P (take_all c.loop-k.k all (omega (arith, c.loop-k-test.false, length-map c.args.instances.now held_instance))) c.loop-k.invariant
