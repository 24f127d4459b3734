use Rattle.std.proofs.Common.{map, take}
use Rattle.std.specs.List.{AllZip}
use Rattle.p21_express_outline.specs.Known.{names_of}
use Rattle.p21_express_outline.specs.Outline.{DigestAttributeIs, digest_own_explicit}
use Rattle.p21_express_syntax.specs.Views.{attributes_view}
use Rattle.p21_express_graph.specs.SchemaContents.{attribute}
use Rattle.p21_express_outline.proofs.attributes.own_attributes.Given as goal

-- those so far are found
abbrev pub invariant-loop-attributes : goal.invariant-loop-attributes
invariant-loop-attributes l = AllZip (DigestAttributeIs (names_of l.known))
    (digest_own_explicit (map attributes_view (take l.attributes-index l.explicit))) (map attribute l.found.items)
