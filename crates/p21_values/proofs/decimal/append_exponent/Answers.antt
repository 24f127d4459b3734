use Rattle.std.proofs.Common.{◌≡◌, ◌≤ℤ◌, ◌<ℤ◌, pos, nat_abs, to_z, of_z, ap, ◌∙◌, arith}
use Rattle.std.proofs.lemmas.Grind.{common_steps}
use Rattle.std.proofs.lemmas.Int.{ints}
use mir.Syntax.{w16}
use Rattle.p21_spec_basics.specs.Digits.{number}
use Rattle.p21_values.proofs.StoredDecimals.{negative_exponent, positive_exponent}
use Rattle.p21_values.proofs.decimal.append_exponent.Goals as goal
use Rattle.p21_values.proofs.decimal.append_exponent.Goals.{then-exponent-lt0+in_ok-push-2, else-exponent-lt0}

pub returns-clause-ok : goal.returns-clause-ok
returns-clause-ok c =
    let z = c.args.exponent in
    let kept = c.without_leading_zeros.ensures in
    let back : to_z w16 (of_z w16 z) ≡ z = omega (arith, ints) in
    let value : number c.four_digits-digits.result ≡ nat_abs z = c.four_digits-digits.ensures.value ∙ c.unsigned_abs.ensures.value ∙ ap nat_abs back in
    let other : z ≡ pos 0 → ⊥ = λ e. c.if-exponent-eq0.false (ap (of_z w16) e) in
    elim c.if-exponent-lt0.branch [
      | then-exponent-lt0+in_ok-push-2 w ↦
          let sign : z <ℤ pos 0 = omega (arith, ints, w.if-exponent-lt0.true) in
          rw (negative_exponent z _ _ kept value other sign) (grind (arith, common_steps))
      | else-exponent-lt0 w ↦
          let sign : pos 0 ≤ℤ z = omega (arith, ints, w.if-exponent-lt0.false) in
          rw (positive_exponent z _ _ kept value other sign) (grind (arith, common_steps))
    ]
