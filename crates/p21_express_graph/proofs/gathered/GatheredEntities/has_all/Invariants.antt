use Rattle.std.specs.Prelude.{ℕ, map, take, Contains}
use Rattle.p21_express_graph.proofs.gathered.GatheredEntities.has_all.Given as goal

-- the first entities are there
abbrev pub invariant-loop-entity : goal.invariant-loop-entity
invariant-loop-entity l = (e : ℕ) → Contains (map (λ x. x.0) (take l.entity-index l.entities)) e → Contains l.self.numbers e
