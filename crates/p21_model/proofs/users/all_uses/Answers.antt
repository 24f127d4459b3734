use Rattle.std.proofs.Common.{ℕ, List, refl, sym, subst}
use Rattle.p21_model.proofs.UsesFound.{HaveUsesBelow, all-uses, instance-uses, last-uses, no-uses}
use Rattle.p21_model_uses.specs.UseRows.{UseRow}
use Rattle.p21_model.proofs.users.all_uses.Goals as goal

pub loop-instance-init : goal.loop-instance-init
loop-instance-init c stated once =
    let s = c.args.model.schema.now in
    let kept = c.args.model.accepted.now.kept in
    let Have : List UseRow → Type 0 = λ rows. HaveUsesBelow s kept 0 rows in
    subst Have (sym c.new-rows.ensures.items) (no-uses s kept)

pub returns-in_default : goal.returns-in_default
returns-in_default c stated once =
    all-uses c.args.model.schema.now c.args.model.accepted.now.kept c.loop-instance.least c.loop-instance.rows.items
    (c.loop-instance.invariant stated once) (c.in_default.ensures.none refl)

pub returns-in_default-checked_add : goal.returns-in_default-checked_add
returns-in_default-checked_add c stated once =
    let s = c.args.model.schema.now in
    let kept = c.args.model.accepted.now.kept in
    last-uses s kept c.number_of-user.result c.in_ok-rows.rows.items c.in_default-checked_add.ensures
    (instance-uses s kept c.loop-instance.least c.number_of-user.result c.in-Some.instance c.loop-instance.rows.items
    c.in_ok-rows.rows.items once (c.loop-instance.invariant stated once) c.number_of-user.ensures
    c.in-Some.ensures.schema c.in-Some.ensures.some (c.in-Some.ensures.stated stated) c.in_ok-rows.ensures c.in-Some.ensures.between)

pub loop-instance-preserved : goal.loop-instance-preserved
loop-instance-preserved c stated once =
    let s = c.args.model.schema.now in
    let kept = c.args.model.accepted.now.kept in
    let Have : ℕ → Type 0 = λ n. HaveUsesBelow s kept n c.in_ok-rows.rows.items in
    subst Have (sym c.in-Some-checked_add.ensures.1)
    (instance-uses s kept c.loop-instance.least c.number_of-user.result c.in-Some.instance c.loop-instance.rows.items
    c.in_ok-rows.rows.items once (c.loop-instance.invariant stated once) c.number_of-user.ensures
    c.in-Some.ensures.schema c.in-Some.ensures.some (c.in-Some.ensures.stated stated) c.in_ok-rows.ensures c.in-Some.ensures.between)
