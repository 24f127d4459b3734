use Rattle.std.specs.Prelude.{◌≡◌, ◌++◌}
use Rattle.std.proofs.Common.{drop}
use Rattle.p21_express_graph.specs.Rising.{texts_of}
use Rattle.p21_express_outline.specs.Outline.{digest_own_names}
use Rattle.p21_express_outline.proofs.names.add_own_names.Given as goal

-- what is added so far, and what is left to add
abbrev pub invariant-loop-attribute : goal.invariant-loop-attribute
invariant-loop-attribute l = texts_of l.names.items ++ digest_own_names (drop l.attribute-index l.attributes) ≡ texts_of l.fn.names.items
    ++ digest_own_names l.attributes
