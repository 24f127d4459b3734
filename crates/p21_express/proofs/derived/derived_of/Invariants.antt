use Rattle.std.proofs.Common.{map, take}
use Rattle.p21_express_outline.specs.Outline.{digest_redeclared_names}
use Rattle.p21_express_outline.specs.Redeclarations.{DigestDerivedAre}
use Rattle.p21_express_syntax.specs.Views.{entity_view}
use Rattle.p21_express_graph.specs.Meaning.{place as place_of}
use Rattle.p21_express.proofs.derived.derived_of.Given as goal

-- those so far are found
abbrev pub invariant-loop-name : goal.invariant-loop-name
invariant-loop-name l = DigestDerivedAre l.hierarchy (map entity_view l.declared) l.entity.0
    (digest_redeclared_names (take l.name-index l.derived)) (map place_of l.found.items)
