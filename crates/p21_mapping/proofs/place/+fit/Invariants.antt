use Rattle.std.proofs.Common.{length}
use Rattle.p21_express_graph.specs.Meaning.{type_use}
use Rattle.p21_mapping.proofs.Lists.{Halfway}
use Rattle.p21_mapping.proofs.place.+fit.Given as goal

abbrev pub invariant-fit_each-loop-param : goal.invariant-fit_each-loop-param
invariant-fit_each-loop-param l = Halfway l.schema l.optional (type_use l.of) l.left.items l.fn.params.items l.fn.needs.items l.needs.items
    l.values

abbrev pub decreases-fit_each-loop-param : goal.decreases-fit_each-loop-param
decreases-fit_each-loop-param l = length l.left.items
