use Rattle.std.specs.Prelude.{◌<◌, ◌++◌, ◌∷◌, [], ℕ, length, map, take}
use Rattle.std.proofs.Common.{ap, sym, ◌∙◌, get_or}
use Rattle.std.proofs.lemmas.List.{get_or-map, map_more, map_push}
use Rattle.std.proofs.lemmas.List.Elements.{Contains-get_or}
use Rattle.p21_express_graph.specs.declared.number.EntityId.{EntityId}
use Rattle.p21_express_graph.specs.Orders.{numbers}
use Rattle.p21_schema.proofs.rising.entities_at.Goals as goal

pub bounds-rising-rank : goal.bounds-rising-rank
bounds-rising-rank c = c.requires _ (Contains-get_or c.args.ranks.now c.loop-rank.rank-index 0 c.loop-rank-test.true)

pub loop-rank-preserved : goal.loop-rank-preserved
loop-rank-preserved c =
    let k : ℕ = c.loop-rank.rank-index in
    let rank : ℕ = get_or c.args.ranks.now k 0 in
    let below : rank < length c.args.rising.now = c.requires rank (Contains-get_or c.args.ranks.now k 0 c.loop-rank-test.true) in
    let entity : EntityId = get_or c.args.rising.now rank record { 0 = 0 } in
    let entity_of : ℕ → ℕ = λ x. get_or (numbers c.args.rising.now) x 0 in
    ap numbers c.in_ok-push.ensures.items
    ∙ map_push (λ e. e.0) c.loop-rank.found.items entity
    ∙ ap (λ xs. xs ++ entity.0 ∷ []) c.loop-rank.invariant
    ∙ ap (λ x. map entity_of (take k c.args.ranks.now) ++ x ∷ [])
    (sym (get_or-map (λ e. e.0) c.args.rising.now rank record { 0 = 0 } 0 below))
    ∙ sym (map_more entity_of c.args.ranks.now k 0 c.loop-rank-test.true)
