use Rattle.std.proofs.Common.{◌<◌, arith, length, refl, ◌∙◌}
use Rattle.std.proofs.Math.ListN.{length-set}
use Rattle.p21_c.specs.Filled.{IsToldNumber}
use Rattle.p21_c.proofs.Filling.{all-told, character-handed, no-character, none-told, one-told, room-told}
use Rattle.p21_model_values.specs.Spelled.{AreLeftCharacters}
use Rattle.p21_c.proofs.model_values.tell_characters.Goals as goal

pub loop-at-init : goal.loop-at-init
loop-at-init c = (
  refl,
  omega arith,
  λ cs told. none-told IsToldNumber (λ left. AreLeftCharacters left c.args.characters.rest.now) cs
      c.args.room.now told,
)

pub loop-at-preserved : goal.loop-at-preserved
loop-at-preserved c =
    let kept = c.loop-at.invariant in
    let within : c.loop-at.at < length c.loop-at.room = omega (arith, c.loop-at-test.true, kept.0) in
    let long = length-set c.loop-at.room c.loop-at.at c.from.result in (
      long ∙ kept.0,
      omega (arith, long, within),
      λ cs told.
          one-told IsToldNumber (λ left. AreLeftCharacters left c.loop-at.left.rest.now)
          (λ left. AreLeftCharacters left c.next.new.self.rest.now) cs c.loop-at.room c.loop-at.at c.from.result within (kept.2 cs told)
          (λ rest left. character-handed c.in-Some.character c.from.result c.next.new.self.rest.now c.from.ensures rest
          (c.in-Some.ensures.handed rest left)),
    )

pub returns-in_default : goal.returns-in_default
returns-in_default c cs told =
    all-told IsToldNumber (λ left. AreLeftCharacters left c.loop-at.left.rest.now) cs c.loop-at.room c.loop-at.at
    (c.loop-at.invariant.2 cs told) (λ rest left. no-character c.next.new.self.rest.now rest (c.in_default.ensures.handed rest left))

pub returns : goal.returns
returns c cs told =
    room-told IsToldNumber (λ left. AreLeftCharacters left c.loop-at.left.rest.now) cs c.loop-at.room (length c.loop-at.room) c.loop-at.at
    (omega (arith, c.loop-at.invariant.0, c.loop-at.invariant.1, c.loop-at-test.false)) refl
    (c.loop-at.invariant.2 cs told)
