use Rattle.std.specs.List.{flat_map}
use Rattle.std.specs.Prelude.{◌++◌, ℕ, List, slice_index_or, take}
use Rattle.std.proofs.Common.{ap, sym, ◌∙◌, append_assoc}
use Rattle.std.proofs.lemmas.List.{take_more}
use Rattle.p21_numbering.specs.Ordering.{pair_of}
use Rattle.p21_numbering.proofs.Walks.{flat_map-last}
use Rattle.p21_numbering.proofs.orders.with_pairs.Goals as goal

pub loop-name-preserved : goal.loop-name-preserved
loop-name-preserved c =
    let i : ℕ = c.loop-name.name-index in
    let name : ℕ = slice_index_or c.args.beside.now i 0 in
    let from : ℕ → List (ℕ × ℕ) = pair_of c.args.positions.now c.args.position in
    let base : List (ℕ × ℕ) = c.args.pairs.items in
    c.in_ok-more.ensures ∙ ap (λ (ps : List (ℕ × ℕ)). ps ++ from name) c.loop-name.invariant
    ∙ append_assoc base (flat_map from (take i c.args.beside.now)) (from name)
    ∙ ap (λ (ps : List (ℕ × ℕ)). base ++ ps) (sym (ap (flat_map from) (take_more c.args.beside.now i 0 c.loop-name-test.true)
    ∙ flat_map-last from (take i c.args.beside.now) name))
