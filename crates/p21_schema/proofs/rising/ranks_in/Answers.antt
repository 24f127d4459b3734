use Rattle.std.specs.Prelude.{◌++◌, ◌∷◌, [], ℕ, map, take}
use Rattle.std.proofs.Common.{ap, sym, ◌∙◌, get_or}
use Rattle.std.proofs.lemmas.List.{map_push}
use Rattle.p21_express_graph.specs.Orders.{numbers}
use Rattle.p21_express_graph.proofs.Gatherings.{numbered-at}
use Rattle.p21_express_graph.proofs.Lookups.{numbers-more}
use Rattle.p21_schema.proofs.rising.ranks_in.Goals as goal

pub bounds-ranks-entity : goal.bounds-ranks-entity
bounds-ranks-entity c = c.requires _ (numbered-at (λ e. e.0) c.args.entities.now c.loop-entity.entity-index record { 0 = 0 }
    c.loop-entity-test.true)

pub loop-entity-preserved : goal.loop-entity-preserved
loop-entity-preserved c =
    let k : ℕ = c.loop-entity.entity-index in
    let e : ℕ = (get_or c.args.entities.now k record { 0 = 0 }).0 in
    let rank_of : ℕ → ℕ = λ x. get_or c.args.ranks.now x 0 in
    c.in_ok-push.ensures.items
    ∙ ap (λ xs. xs ++ rank_of e ∷ []) c.loop-entity.invariant
    ∙ sym (map_push rank_of (numbers (take k c.args.entities.now)) e)
    ∙ ap (map rank_of) (sym (numbers-more (λ x. x.0) c.args.entities.now k record { 0 = 0 } c.loop-entity-test.true))
