use Rattle.std.specs.Prelude.{◌++◌, ◌∷◌, [], ℕ}
use Rattle.std.proofs.Common.{ap, sym, ◌∙◌, get_or}
use Rattle.std.proofs.lemmas.List.{map_more}
use Rattle.std.proofs.lemmas.List.Elements.{Contains-get_or}
use Rattle.p21_express_graph.proofs.indexes.positions_at.Goals as goal

pub bounds-places-number : goal.bounds-places-number
bounds-places-number c = c.requires _ (Contains-get_or c.args.numbers.now c.loop-number.number-index 0 c.loop-number-test.true)

pub loop-number-preserved : goal.loop-number-preserved
loop-number-preserved c =
    let k : ℕ = c.loop-number.number-index in
    let place_of : ℕ → ℕ = λ x. get_or c.args.places.now x 0 in
    c.in_ok-push.ensures.items
    ∙ ap (λ xs. xs ++ place_of (get_or c.args.numbers.now k 0) ∷ []) c.loop-number.invariant
    ∙ sym (map_more place_of c.args.numbers.now k 0 c.loop-number-test.true)
