use Rattle.std.specs.Prelude.{◌≡◌, map, take}
use Rattle.p21_express_graph.specs.Rising.{texts_of}
use Rattle.p21_express_outline.proofs.names.type_names.Given as goal

-- the names so far
abbrev pub invariant-loop-defined : goal.invariant-loop-defined
invariant-loop-defined l = texts_of l.names.items ≡ map (λ x. x.name) (take l.defined-index l.types)
