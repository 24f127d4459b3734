use Rattle.std.proofs.Common.{arith, ap}
use Rattle.p21_spec_basics.proofs.Members.{Each-weaker}
use Rattle.p21_express_graph.specs.Orders.{numbers, number_lists}
use Rattle.p21_express_graph.proofs.prefixes.PrefixLists.new.Goals as goal
use Rattle.p21_express_graph.proofs.Gatherings.{mapped-length}
use Rattle.p21_express_graph.proofs.SharedRuns.{bare-empty, bare-within, empty-below}

pub returns-clause-prefixes : goal.returns-clause-prefixes
returns-clause-prefixes c = bare-within (number_lists c.in_ok-runs.runs.items) c.in_ok-prefixes.prefixes.items (omega (arith, c.in_ok-runs.ensures.size, mapped-length (λ x. numbers x.items) c.in_ok-runs.runs.items)) c.in_ok-prefixes.ensures.bare

pub returns-clause-empty : goal.returns-clause-empty
returns-clause-empty c = bare-empty (number_lists c.in_ok-runs.runs.items) c.in_ok-prefixes.prefixes.items c.in_ok-prefixes.ensures.bare

pub returns-clause-below : goal.returns-clause-below
returns-clause-below c = empty-below (λ x. numbers x.items) c.in_ok-runs.runs.items (Each-weaker _ _ (λ x empty. ap numbers empty) c.in_ok-runs.runs.items c.in_ok-runs.ensures.empty)
