use Rattle.std.proofs.Common.{◌≡◌, refl, arith, to_z, of_z}
use Rattle.std.proofs.lemmas.Int.{ints}
use mir.Syntax.{w32}
use Rattle.p21_scan.proofs.Numbers.{no_point, no_real, no_whole}
use Rattle.p21_model_values.proofs.NumberTexts.{real-digits, real-short, real-spelled, whole-digits, whole-spelled, whole-unpointed}
use Rattle.p21_model_values.proofs.value.Value.digits.Goals as goal

pub returns-in_default-clause-whole : goal.returns-in_default-clause-whole
returns-in_default-clause-whole c z t = no_whole c.args.self.text.now z c.in_default.ensures.none (whole-spelled c.args.self.text.now z t)

pub returns-in_default-clause-real : goal.returns-in_default-clause-real
returns-in_default-clause-real c d t = no_real c.args.self.text.now c.in_default.ensures.none (real-spelled c.args.self.text.now d t).form

pub returns-in_default-decimals-clause-whole : goal.returns-in_default-decimals-clause-whole
returns-in_default-decimals-clause-whole c z t =
    let (at, other) = rw c.in_default-decimals.is at c.in-Some.ensures.some in
    record {
      value_is = whole-digits c.args.self.text.now _ _ _ z at (whole-spelled c.args.self.text.now z t);
      no_fraction =
          refl;
      no_exponent = refl;
    }

pub returns-in_default-decimals-clause-real : goal.returns-in_default-decimals-clause-real
returns-in_default-decimals-clause-real c d t =
    let (at, other) = rw c.in_default-decimals.is at c.in-Some.ensures.some in
    absurd (no_point _ _ _ _ at other (real-spelled c.args.self.text.now d t).form)

pub returns-in_default-exponent_value-clause-whole : goal.returns-in_default-exponent_value-clause-whole
returns-in_default-exponent_value-clause-whole c z t =
    let (power, has, at) = rw c.in-Some-decimals.is at c.in-Some.ensures.some in
    whole-unpointed _ _ _ _ _ power z at (whole-spelled c.args.self.text.now z t)

pub returns-in_default-exponent_value-clause-real : goal.returns-in_default-exponent_value-clause-real
returns-in_default-exponent_value-clause-real c d t =
    let (power, has, at) = rw c.in-Some-decimals.is at c.in-Some.ensures.some in
    real-short _ _ _ _ _ power d at (real-spelled c.args.self.text.now d t) (c.in_default-exponent_value.ensures.value power has)

pub returns-clause-whole : goal.returns-clause-whole
returns-clause-whole c z t =
    let (power, has, at) = rw c.in-Some-decimals.is at c.in-Some.ensures.some in
    absurd (whole-unpointed _ _ _ _ _ power z at (whole-spelled c.args.self.text.now z t))

pub returns-clause-real : goal.returns-clause-real
returns-clause-real c d t =
    let (power, has, at) = rw c.in-Some-decimals.is at c.in-Some.ensures.some in
    let k = c.in-Some-exponent_value.exponent in
    let back : to_z w32 (of_z w32 k) ≡ k = omega (arith, ints, c.in-Some-exponent_value.ensures.small) in
    rw back (real-digits _ _ _ _ _ power d at (real-spelled c.args.self.text.now d t) k (c.in-Some-exponent_value.ensures.value power has))
