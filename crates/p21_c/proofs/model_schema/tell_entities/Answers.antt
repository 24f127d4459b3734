use Rattle.std.proofs.Common.{◌≡◌, ◌<◌, arith, length, refl, ◌∙◌}
use Rattle.std.proofs.Math.ListN.{length-set}
use Rattle.p21_c.specs.Filled.{IsToldNumber}
use Rattle.p21_c.proofs.Filling.{all-told, no-number, none-told, number-handed, one-told, room-told}
use Rattle.p21_express_graph.specs.Orders.{numbers}
use Rattle.p21_c.proofs.model_schema.tell_entities.Goals as goal

pub loop-at-init : goal.loop-at-init
loop-at-init c = (
  refl,
  omega arith,
  none-told IsToldNumber (λ left. left ≡ numbers c.args.entities.now) (numbers c.args.entities.now)
      c.args.room.now refl,
)

pub loop-at-preserved : goal.loop-at-preserved
loop-at-preserved c =
    let kept = c.loop-at.invariant in
    let within : c.loop-at.at < length c.loop-at.room = omega (arith, c.loop-at-test.true, kept.0) in
    let long = length-set c.loop-at.room c.loop-at.at c.in-Some.entity.now.0 in (
      long ∙ kept.0,
      omega (arith, long, within),
      one-told IsToldNumber (λ left. left ≡ numbers c.loop-at.left.now) (λ left. left ≡ numbers c.in-Some.rest.now)
          (numbers c.args.entities.now) c.loop-at.room c.loop-at.at c.in-Some.entity.now.0 within kept.2
          (number-handed c.loop-at.left.now c.in-Some.rest.now c.in-Some.entity.now c.in-Some.ensures.cases.0),
    )

pub returns-in_default : goal.returns-in_default
returns-in_default c =
    all-told IsToldNumber (λ left. left ≡ numbers c.loop-at.left.now) (numbers c.args.entities.now) c.loop-at.room c.loop-at.at
    c.loop-at.invariant.2 (no-number c.loop-at.left.now c.in_default.ensures.cases)

pub returns : goal.returns
returns c =
    room-told IsToldNumber (λ left. left ≡ numbers c.loop-at.left.now) (numbers c.args.entities.now) c.loop-at.room (length c.loop-at.room)
    c.loop-at.at (omega (arith, c.loop-at.invariant.0, c.loop-at.invariant.1, c.loop-at-test.false)) refl
    c.loop-at.invariant.2
