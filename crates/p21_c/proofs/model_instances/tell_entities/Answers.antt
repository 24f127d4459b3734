use Rattle.std.proofs.Common.{◌<◌, arith, length, refl, ◌∙◌}
use Rattle.std.proofs.Math.ListN.{length-set}
use Rattle.p21_c.specs.Filled.{IsToldNumber}
use Rattle.p21_c.proofs.Filling.{all-told, entity-handed, no-entity-left, none-told, one-told, room-told}
use Rattle.p21_model.specs.EntitiesLeft.{TellsEntities}
use Rattle.p21_c.proofs.model_instances.tell_entities.Goals as goal

pub loop-at-init : goal.loop-at-init
loop-at-init c = (refl, omega arith, λ set told. none-told IsToldNumber (TellsEntities c.args.entities) set c.args.room.now told)

pub loop-at-preserved : goal.loop-at-preserved
loop-at-preserved c =
    let kept = c.loop-at.invariant in
    let within : c.loop-at.at < length c.loop-at.room = omega (arith, c.loop-at-test.true, kept.0) in
    let long = length-set c.loop-at.room c.loop-at.at c.in-Some.entity.0 in (
      long ∙ kept.0,
      omega (arith, long, within),
      λ set told. one-told IsToldNumber (TellsEntities c.loop-at.left) (TellsEntities c.next.new.self) set c.loop-at.room c.loop-at.at
          c.in-Some.entity.0 within (kept.2 set told)
          (λ rest left. entity-handed c.in-Some.entity c.next.new.self rest (c.in-Some.ensures.handed rest left)),
    )

pub returns-in_default : goal.returns-in_default
returns-in_default c set told =
    all-told IsToldNumber (TellsEntities c.loop-at.left) set c.loop-at.room c.loop-at.at (c.loop-at.invariant.2 set told)
    (λ rest left. no-entity-left c.next.new.self rest (c.in_default.ensures.handed rest left))

pub returns : goal.returns
returns c set told =
    room-told IsToldNumber (TellsEntities c.loop-at.left) set c.loop-at.room (length c.loop-at.room) c.loop-at.at
    (omega (arith, c.loop-at.invariant.0, c.loop-at.invariant.1, c.loop-at-test.false)) refl (c.loop-at.invariant.2 set told)
