use Rattle.std.specs.Prelude.{◌≡◌, ◌++◌, map}
use Rattle.std.specs.Arc.{arc_value}
use Rattle.std.proofs.Common.{drop}
use Rattle.p21_express_graph.specs.Meaning.{type_use}
use Rattle.p21_express_graph.specs.SchemaContents.{attribute}
use Rattle.p21_express_outline.specs.Attributes.{own_with}
use Rattle.p21_express_outline.proofs.attributes.add_sharing.Given as goal

-- what is added so far, and what is left to add
abbrev pub invariant-loop-name : goal.invariant-loop-name
invariant-loop-name l = map attribute l.out.items ++ own_with l.optional (type_use (arc_value l.type_use)) (drop l.name-index l.names) ≡ map
    attribute l.fn.out.items ++ own_with l.optional (type_use (arc_value l.type_use)) l.names
