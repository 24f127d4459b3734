use Rattle.std.specs.Prelude.{length}
use Rattle.std.proofs.Common.{sym, ◌∙◌}
use Rattle.std.proofs.lemmas.Bool.{eqb-false}
use Rattle.p21_express_graph.specs.Orders.{numbers}
use Rattle.p21_express_graph.proofs.FrontsAbove.{ends-front}
use Rattle.p21_express_graph.proofs.SharedRuns.{not-none}
use Rattle.p21_express_graph.proofs.above.ends_front.Goals as goal

pub returns-then-list-size : goal.returns-then-list-size
returns-then-list-size c told =
    let some = not-none (length c.args.list.now) (eqb-false (length c.args.list.now) 0 (sym c.is_empty.ensures ∙ c.if-is_empty.false)) in
    ends-front (λ e. e.0) c.args.list.now (numbers c.args.run.now) record { 0 = 0 } c.args.last.0 some c.if-list-size.true (c.begins_with.ensures told)
