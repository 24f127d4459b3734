use Rattle.std.proofs.Common.{map, take}
use Rattle.std.specs.List.{AllZip}
use Rattle.p21_express_outline.specs.Known.{names_of}
use Rattle.p21_express_outline.specs.Outline.{digest_redeclared_explicit}
use Rattle.p21_express_outline.specs.Redeclarations.{DigestRedeclaredIs}
use Rattle.p21_express_syntax.specs.Views.{attributes_view}
use Rattle.p21_express_graph.specs.SchemaContents.{redeclared}
use Rattle.p21_express.proofs.redeclared.redeclared_of.Given as goal

-- those so far are found
abbrev pub invariant-loop-attributes : goal.invariant-loop-attributes
invariant-loop-attributes l = AllZip (DigestRedeclaredIs l.hierarchy (names_of l.known) l.fn.entity.0)
    (digest_redeclared_explicit (map attributes_view (take l.attributes-index l.explicit))) (map redeclared l.found.items)
