use Rattle.std.proofs.Common.{◌<◌, arith, length, refl, ◌∙◌}
use Rattle.std.proofs.Math.ListN.{length-set}
use Rattle.p21_c.specs.Filled.{IsToldRow}
use Rattle.p21_c.proofs.Filling.{all-told, no-row, none-told, one-told, room-told, row-handed}
use Rattle.p21_model.specs.Left.{TellsRows}
use Rattle.p21_c.proofs.model_instances.tell_values.Goals as goal

pub loop-at-init : goal.loop-at-init
loop-at-init c = (refl, omega arith, λ rows told. none-told IsToldRow (TellsRows c.args.attributes) rows c.args.room.now told)

pub loop-at-preserved : goal.loop-at-preserved
loop-at-preserved c =
    let kept = c.loop-at.invariant in
    let within : c.loop-at.at < length c.loop-at.room = omega (arith, c.loop-at-test.true, kept.0) in
    let long = length-set c.loop-at.room c.loop-at.at c.told.result in (
      long ∙ kept.0,
      omega (arith, long, within),
      λ rows told. one-told IsToldRow (TellsRows c.loop-at.left) (TellsRows c.next.new.self) rows c.loop-at.room c.loop-at.at c.told.result
          within (kept.2 rows told)
          (λ rest left. row-handed c.in-Some.attribute c.next.new.self c.told.result c.told.ensures rest
          (c.in-Some.ensures.handed rest left)),
    )

pub returns-in_default : goal.returns-in_default
returns-in_default c rows told =
    all-told IsToldRow (TellsRows c.loop-at.left) rows c.loop-at.room c.loop-at.at (c.loop-at.invariant.2 rows told)
    (λ rest left. no-row c.next.new.self rest (c.in_default.ensures.handed rest left))

pub returns : goal.returns
returns c rows told =
    room-told IsToldRow (TellsRows c.loop-at.left) rows c.loop-at.room (length c.loop-at.room) c.loop-at.at
    (omega (arith, c.loop-at.invariant.0, c.loop-at.invariant.1, c.loop-at-test.false)) refl (c.loop-at.invariant.2 rows told)
