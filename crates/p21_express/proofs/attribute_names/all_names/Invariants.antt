use Rattle.std.proofs.Common.{◌≡◌, map, take}
use Rattle.p21_express_graph.specs.Rising.{texts_of}
use Rattle.p21_spec_schema.specs.Schema.{attributes_of}
use Rattle.p21_express.proofs.attribute_names.all_names.Given as goal

-- the names so far
abbrev pub invariant-loop-index : goal.invariant-loop-index
invariant-loop-index l = texts_of l.names.items ≡ map (λ a. a.name) (take l.index (attributes_of l.hierarchy l.entity.0))
