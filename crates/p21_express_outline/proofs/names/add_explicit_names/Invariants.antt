use Rattle.std.specs.Prelude.{◌≡◌, ◌++◌}
use Rattle.std.proofs.Common.{drop}
use Rattle.p21_express_graph.specs.Rising.{texts_of}
use Rattle.p21_express_outline.proofs.Adding.{explicit_names}
use Rattle.p21_express_outline.proofs.names.add_explicit_names.Given as goal

-- what is added so far, and what is left to add
abbrev pub invariant-loop-attributes : goal.invariant-loop-attributes
invariant-loop-attributes l = texts_of l.names.items ++ explicit_names (drop l.attributes-index l.explicit) ≡ texts_of l.fn.names.items
    ++ explicit_names l.explicit
