use Rattle.p21_express_graph.proofs.Lookups.{map-option}
use Rattle.p21_express.proofs.lookups.place_above.Goals as goal

pub returns-then-is_a : goal.returns-then-is_a
returns-then-is_a c = map-option c.own_place.result _ _ _ _ (λ none place above. none place above.1)
    (λ place own. (c.is_a.ensures.0 c.if-is_a.true, own)) c.own_place.ensures
