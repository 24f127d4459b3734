use Rattle.std.proofs.Common.{◌≡◌, ◌<◌, arith, length, None, Some, refl, subst, sym, ◌∙◌}
use Rattle.std.proofs.Math.ListN.{length-set}
use Rattle.p21_c.specs.Filled.{IsToldUse}
use Rattle.p21_c.proofs.Filling.{all-told, no-use, none-told, one-told, room-told, use-handed}
use Rattle.p21_model.specs.Uses.{HandsOutUse}
use Rattle.p21_c.proofs.model_users.tell_uses.Goals as goal

pub loop-at-init : goal.loop-at-init
loop-at-init c = (refl, omega arith, none-told IsToldUse (λ left. left ≡ c.args.uses) c.args.uses c.args.room.now refl)

pub loop-at-preserved : goal.loop-at-preserved
loop-at-preserved c =
    let kept = c.loop-at.invariant in
    let within : c.loop-at.at < length c.loop-at.room = omega (arith, c.loop-at-test.true, kept.0) in
    let long = length-set c.loop-at.room c.loop-at.at c.told.result in (
      long ∙ kept.0,
      omega (arith, long, within),
      one-told IsToldUse (λ left. left ≡ c.loop-at.left) (λ left. left ≡ c.next.new.self) c.args.uses c.loop-at.room c.loop-at.at
          c.told.result within kept.2
          (λ rest same. use-handed c.in-Some.found c.told.result rest c.next.new.self c.told.ensures
          (subst (λ old. HandsOutUse old (Some c.in-Some.found) c.next.new.self) (sym same) c.in-Some.ensures)),
    )

pub returns-in_default : goal.returns-in_default
returns-in_default c =
    all-told IsToldUse (λ left. left ≡ c.loop-at.left) c.args.uses c.loop-at.room c.loop-at.at c.loop-at.invariant.2
    (λ rest same. no-use rest c.next.new.self (subst (λ old. HandsOutUse old None c.next.new.self) (sym same) c.in_default.ensures))

pub returns : goal.returns
returns c =
    room-told IsToldUse (λ left. left ≡ c.loop-at.left) c.args.uses c.loop-at.room (length c.loop-at.room) c.loop-at.at
    (omega (arith, c.loop-at.invariant.0, c.loop-at.invariant.1, c.loop-at-test.false)) refl c.loop-at.invariant.2
