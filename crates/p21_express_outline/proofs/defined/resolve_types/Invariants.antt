use Rattle.std.proofs.Common.{map, take}
use Rattle.std.specs.List.{AllZip}
use Rattle.p21_express_outline.specs.Known.{names_of}
use Rattle.p21_express_outline.specs.Outline.{TypeOutline}
use Rattle.p21_express_syntax.specs.Views.{defined_view}
use Rattle.p21_express_graph.specs.SchemaContents.{defined}
use Rattle.p21_express_outline.proofs.defined.resolve_types.Given as goal

-- those so far are found
abbrev pub invariant-loop-defined : goal.invariant-loop-defined
invariant-loop-defined l = AllZip (λ x found. TypeOutline (names_of l.known) (defined_view x) found) (take l.defined-index l.declared)
    (map defined l.found.items)
