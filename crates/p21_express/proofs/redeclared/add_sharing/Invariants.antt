use Rattle.std.proofs.Common.{◌≡◌, List, ◌++◌, map, take}
use Rattle.std.specs.List.{AllZip}
use Rattle.p21_spec_schema.specs.Schema.{Redeclared}
use Rattle.p21_express_outline.specs.Known.{names_of}
use Rattle.p21_express.specs.Explicit.{redeclared_by}
use Rattle.p21_express_outline.specs.Redeclarations.{DigestRedeclaredIs}
use Rattle.p21_express_syntax.specs.Views.{attributes_view}
use Rattle.p21_express_graph.specs.SchemaContents.{redeclared}
use Rattle.p21_express.proofs.redeclared.add_sharing.Given as goal

-- those so far are added
abbrev pub invariant-loop-name : goal.invariant-loop-name
invariant-loop-name l = (ys : List Redeclared) × (map redeclared l.out.items ≡ map redeclared l.fn.out.items ++ ys)
    × AllZip (DigestRedeclaredIs l.redeclarer.hierarchy.now (names_of l.redeclarer.known.now) l.redeclarer.entity.0)
    (redeclared_by (attributes_view l.explicit) (take l.name-index l.explicit.names.items)) ys
