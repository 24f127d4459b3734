use Rattle.std.proofs.Common.{◌≡◌, drop, map}
use Rattle.p21_express_graph.specs.Gathering.{add_firsts}
use Rattle.p21_express_graph.proofs.gathered.GatheredEntities.add_all.Given as goal

abbrev pub invariant-loop-entity : goal.invariant-loop-entity
invariant-loop-entity l = (l.self.count ≡ l.fn.self.count) × (add_firsts l.self.numbers (map (λ x. x.0) (drop l.entity-index l.entities)) ≡ add_firsts l.fn.self.numbers (map (λ x. x.0) l.entities))
