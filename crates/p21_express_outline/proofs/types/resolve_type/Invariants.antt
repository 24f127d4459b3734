use Rattle.std.proofs.Common.{◌≡◌, ◌≤◌, length, drop}
use Rattle.p21_spec_schema.specs.Schema.{TypeUse}
use Rattle.p21_express_outline.specs.Known.{names_of}
use Rattle.p21_express_outline.specs.Outline.{SimpleIs, aggregates_of}
use Rattle.p21_express_graph.specs.Meaning.{type_use}
use Rattle.p21_express_outline.proofs.types.resolve_type.Given as goal

-- the aggregates behind those that are left stand around the element
abbrev pub invariant-loop-left : goal.invariant-loop-left
invariant-loop-left l = (l.left ≤ length l.written.aggregates.items)
    × ((element : TypeUse) × SimpleIs (names_of l.known) l.written.element element
    × (type_use l.found ≡ aggregates_of (drop l.left l.written.aggregates.items) element))

abbrev pub decreases-loop-left : goal.decreases-loop-left
decreases-loop-left l = l.left
