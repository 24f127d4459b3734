use Rattle.std.proofs.Common.{◌≡◌, List, None, Some, refl, rules, subst, sym}
use Rattle.p21_model.proofs.UseHanding.{none_handed, one_handed}
use Rattle.p21_model.specs.Uses.{HandsOutUse}
use Rattle.p21_model_uses.specs.UseRows.{UseRow}
use Rattle.p21_model.proofs.users.UsersOf.next.Goals as goal

pub returns-in_default : goal.returns-in_default
returns-in_default c =
    let same : c.args.self.now ≡ c.self.inside.rest = search rules in
    subst (λ (old : List UseRow). HandsOutUse old None c.next.new.self) (sym same) (none_handed _ _ c.in_default.ensures)

pub returns : goal.returns
returns c =
    let same : c.args.self.now ≡ c.self.inside.rest = search rules in
    subst (λ (old : List UseRow). HandsOutUse old (Some
    (record { user = c.in-Some.user; place = record { entity = record { 0 = c.in-Some.entity }; index = c.in-Some.index } }))
    c.next.new.self) (sym same)
    (one_handed _ _ (c.in-Some.user, c.in-Some.entity, c.in-Some.index) _ c.in-Some.ensures refl refl)
