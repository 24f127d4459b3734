use Rattle.std.specs.Prelude.{◌≡◌, map, take}
use Rattle.p21_express_graph.specs.Rising.{texts_of}
use Rattle.p21_express_outline.proofs.names.entity_names.Given as goal

-- the names so far
abbrev pub invariant-loop-entity : goal.invariant-loop-entity
invariant-loop-entity l = texts_of l.names.items ≡ map (λ x. x.name) (take l.entity-index l.entities)
