use Rattle.std.specs.Prelude.{length}
use Rattle.std.proofs.Common.{arith, sym, ◌∙◌}
use Rattle.std.proofs.lemmas.Bool.{eqb-false}
use Rattle.p21_express_graph.specs.Orders.{numbers}
use Rattle.p21_express_graph.proofs.Gatherings.{mapped-length, numbered-at}
use Rattle.p21_express_graph.proofs.SharedRuns.{not-none}
use Rattle.p21_express_graph.proofs.above.run_above.Goals as goal

pub prefix_of-front-requires : goal.prefix_of-front-requires
prefix_of-front-requires c = c.requires.supertypes _ (numbered-at (λ e. e.0) c.args.supertypes.now 0 record { 0 = 0 } (not-none (length c.args.supertypes.now) (eqb-false (length c.args.supertypes.now) 0 (sym c.is_empty.ensures ∙ c.if-is_empty.false))))

pub run-requires : goal.run-requires
run-requires c =
    let within = c.requires.prefixes _ c.prefix_of-front.result c.prefix_of-front.ensures in
    omega (arith, within.0, mapped-length (λ x. numbers x.items) c.args.orders.now.runs.items)
