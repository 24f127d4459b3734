use Rattle.std.proofs.Common.{Some, ap, ◌∙◌}
use Rattle.std.proofs.lemmas.Option.{slice_get-get_or, slice_get-map}
use Rattle.std.specs.Option.{option_map}
use Rattle.p21_canon.proofs.FoundRows.{only-first}
use Rattle.p21_express_graph.specs.Orders.{numbers}
use Rattle.p21_express_graph.specs.declared.number.EntityId.{EntityId}
use Rattle.p21_canon.proofs.position.position_of.Goals as goal

pub returns-then-entities-guess : goal.returns-then-entities-guess
returns-then-entities-guess c =
    let es = c.args.entities.now in
    let k = c.position_by_name-guess.result in
    let at = slice_get-get_or es k (record { 0 = 0 }) c.if-guess-entities.true in
    only-first (numbers es) k c.args.entity.0 c.requires.distinct
    (slice_get-map (λ (e : EntityId). e.0) es k ∙ ap (option_map (λ (e : EntityId). e.0)) at ∙ ap Some c.if-entities-guess.true)
