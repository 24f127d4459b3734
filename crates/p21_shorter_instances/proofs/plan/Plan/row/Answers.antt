use Rattle.std.proofs.Common.{List, subst, sym}
use Rattle.std.specs.Prelude.{Option}
use Rattle.p21_shorter_instances.proofs.Steps.{row_at}
use Rattle.p21_shorter_instances.specs.Steps.{IsPlanOf, rows_view}
use Rattle.p21_shorter_instances.specs.declared.row.Row.{Row}
use Rattle.p21_shorter_instances.proofs.plan.Plan.row.Goals as goal

pub returns-in-Some : goal.returns-in-Some
returns-in-Some c = λ s are.
    let inside : IsPlanOf s (rows_view c.self.inside.rows.items) = subst (IsPlanOf s) (sym c.self.view_is) are in
    row_at s c.deref.result.now c.args.entity.0 c.in_ok-row.row.now _
    (subst (λ (rows : List (Option Row)). IsPlanOf s (rows_view rows)) (sym c.deref.ensures.value) inside) c.in_ok-row.ensures.lookup.3
    c.in-Some.is
