use Rattle.std.specs.Prelude.{length, take}
use Rattle.std.proofs.Common.{arith, ap, ◌∙◌}
use Rattle.p21_express_graph.specs.Orders.{numbers}
use Rattle.p21_express_graph.proofs.Gatherings.{mapped-length}
use Rattle.p21_express_graph.proofs.prefixes.PrefixLists.front.Goals as goal

pub run-requires : goal.run-requires
run-requires c = omega (arith, c.requires.0, mapped-length (λ x. numbers x.items) c.args.self.now.runs.items)

pub first_of-requires : goal.first_of-requires
first_of-requires c = omega (arith, c.requires.1, ap length c.run.ensures, mapped-length (λ e. e.0) c.run.result.now)

pub returns : goal.returns
returns c = c.first_of.ensures ∙ ap (take c.args.front.size) c.run.ensures
