use Rattle.std.proofs.Common.{◌≡◌, map, take}
use Rattle.p21_express_graph.specs.Meaning.{kind}
use Rattle.p21_express_graph.specs.DirectRenaming.{direct_renaming}
use Rattle.p21_express_graph.specs.SettledOrder.{lists_of}
use Rattle.p21_express_graph.proofs.direct_renaming.renamed_lists.Given as goal

abbrev pub invariant-loop-defined : goal.invariant-loop-defined
invariant-loop-defined l = lists_of l.lists.items ≡ map (λ x. direct_renaming (kind x.kind)) (take l.defined-index l.types)
