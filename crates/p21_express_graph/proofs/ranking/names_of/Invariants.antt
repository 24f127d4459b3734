use Rattle.std.proofs.Common.{◌≡◌, map, take}
use Rattle.p21_express_graph.specs.Rising.{texts_of}
use Rattle.p21_express_graph.proofs.ranking.names_of.Given as goal

abbrev pub invariant-loop-entity : goal.invariant-loop-entity
invariant-loop-entity l = texts_of l.names.items ≡ map (λ x. x.name) (take l.entity-index l.entities)
