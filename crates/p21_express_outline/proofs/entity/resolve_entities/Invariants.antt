use Rattle.std.proofs.Common.{map, take}
use Rattle.std.specs.List.{AllZip}
use Rattle.p21_express_outline.specs.Entities.{EntityFound}
use Rattle.p21_express_outline.specs.Known.{names_of}
use Rattle.p21_express_syntax.specs.Views.{entity_view}
use Rattle.p21_express_graph.specs.SchemaContents.{entity}
use Rattle.p21_express_outline.proofs.entity.resolve_entities.Given as goal

-- those so far are found
abbrev pub invariant-loop-entity : goal.invariant-loop-entity
invariant-loop-entity l = AllZip (λ x found. EntityFound (names_of l.known) (entity_view x) found) (take l.entity-index l.declared)
    (map entity l.found.items)
