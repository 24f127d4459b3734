use Rattle.std.specs.List.{flat_map, range_with_len}
use Rattle.std.specs.Prelude.{◌≡◌, ◌++◌, ℕ, List}
use Rattle.std.proofs.Common.{ap, sym, ◌∙◌}
use Rattle.p21_numbering.specs.Ordering.{pair_of, pairs_from}
use Rattle.p21_numbering.specs.Ranked.{Ranked, held_instances, ranked_at}
use Rattle.p21_numbering.proofs.PartSizes.{range-more}
use Rattle.p21_numbering.proofs.Walks.{flat_map-last}
use Rattle.p21_numbering.proofs.orders.pairs.Goals as goal

pub loop-k-preserved : goal.loop-k-preserved
loop-k-preserved c =
    let all : List Ranked = held_instances c.args.instances.now in
    let k : ℕ = c.loop-k.k in
    let from : ℕ → List (ℕ × ℕ) = pairs_from c.args.positions.now all in
    let beside : c.deref.result.now ≡ (ranked_at all k).beside = c.deref.ensures.value ∙ ap (λ (r : Ranked). r.beside) c.at.ensures in
    c.in_ok-pairs.ensures ∙ ap (λ (ns : List ℕ). c.loop-k.pairs.items ++ flat_map (pair_of c.args.positions.now k) ns) beside
    ∙ ap (λ (ps : List (ℕ × ℕ)). ps ++ from k) c.loop-k.invariant
    ∙ sym (ap (flat_map from) (range-more k) ∙ flat_map-last from (range_with_len 0 k) k)
