use Rattle.std.specs.Prelude.{List}
use Rattle.std.proofs.Common.{subst, sym, ◌∙◌}
use Rattle.std.proofs.lemmas.Result.{err_from_is_err_and}
use Rattle.p21_express_graph.specs.declared.number.EntityId.{EntityId}
use Rattle.p21_express_graph.specs.Orders.{numbers}
use Rattle.p21_express_graph.specs.Rising.{IsOwnRising}
use Rattle.p21_schema.proofs.RisingSets.{set-kept}
use Rattle.p21_schema.proofs.schema.Schema.own_rising.Goals as goal

pub returns-in-Some-clause-ok : goal.returns-in-Some-clause-ok
returns-in-Some-clause-ok c =
    let P : List EntityId → Type 0 = λ xs. IsOwnRising c.args.self.now c.args.entity.0 (numbers xs) in
    let kept = set-kept c.self.view_is c.self.invariant.rising_are c.requires c.index.ensures c.in-Some.is in
    subst P (sym (c.from_slice.ensures ∙ c.deref.ensures.value)) kept.1

pub returns-in_err-rising-in-None-clause-err : goal.returns-in_err-rising-in-None-clause-err
returns-in_err-rising-in-None-clause-err c =
    let (_, is, _) = err_from_is_err_and c.from_residual.result c.from_residual.ensures.1 in
    rw is (set-kept c.self.view_is c.self.invariant.rising_are c.requires c.index.ensures c.in-None.is)

pub returns-in_ok-rising-in-None-clause-ok : goal.returns-in_ok-rising-in-None-clause-ok
returns-in_ok-rising-in-None-clause-ok c =
    let P : List EntityId → Type 0 = λ xs. IsOwnRising c.args.self.now c.args.entity.0 (numbers xs) in
    subst P (sym c.from_vec.ensures) c.in_ok-rising-in-None.ensures
