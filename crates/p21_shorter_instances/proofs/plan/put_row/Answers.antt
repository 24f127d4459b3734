use Rattle.std.proofs.Common.{List, subst, sym}
use Rattle.std.specs.Prelude.{Option}
use Rattle.p21_shorter_instances.proofs.Steps.{row_more, row_put}
use Rattle.p21_shorter_instances.specs.Steps.{IsPlanOf, rows_view}
use Rattle.p21_shorter_instances.specs.declared.row.Row.{Row}
use Rattle.p21_shorter_instances.proofs.plan.put_row.Goals as goal

pub loop-rows-preserved : goal.loop-rows-preserved
loop-rows-preserved c =
    λ s are. subst (λ (rows : List (Option Row)). IsPlanOf s (rows_view rows)) (sym c.in_ok-push.ensures.items)
    (row_more s c.loop-rows.rows.items (c.loop-rows.invariant s are))

pub returns-in_err-push : goal.returns-in_err-push
returns-in_err-push c = λ s are has. subst (λ (rows : List (Option Row)). IsPlanOf s (rows_view rows)) (sym c.in_err-push.ensures.items)
    (c.loop-rows.invariant s are)

pub returns : goal.returns
returns c = λ s are has. row_put s c.loop-rows.rows.items c.args.at c.args.row (c.loop-rows.invariant s are) has
