use Rattle.std.proofs.Common.{map, take}
use Rattle.std.specs.List.{AllZip}
use Rattle.p21_express_outline.specs.Known.{names_of}
use Rattle.p21_express_outline.specs.Outlined.{list_of}
use Rattle.p21_express_outline.specs.Outline.{DigestOneOfIs, digest_one_of_lists}
use Rattle.p21_express_syntax.specs.Views.{entity_view}
use Rattle.p21_express_outline.proofs.outlines.resolve_lists.Given as goal

-- those so far are found
abbrev pub invariant-loop-entity : goal.invariant-loop-entity
invariant-loop-entity l = AllZip (DigestOneOfIs (names_of l.known)) (digest_one_of_lists (map entity_view (take l.entity-index l.declared)))
    (map list_of l.found.items)
