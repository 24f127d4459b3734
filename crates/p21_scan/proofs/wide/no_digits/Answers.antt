use Rattle.std.proofs.Common.{arith}
use Rattle.std.proofs.lemmas.Simd.{zip2_of_maps, splat_is_map}
use Rattle.p21_scan.specs.Class.{is_of_other_class}
use Rattle.p21_scan.specs.declared.class.Class.TheVariants.{Digit}
use Rattle.p21_scan.proofs.Lanes.{at_most, minus, itself, mask-tests}
use Rattle.p21_scan.proofs.wide.no_digits.Goals as goal

pub returns : goal.returns
returns c =
    let v = c.args.bytes in
    let long = c.fits-bytes.0 in
    mask-tests _ (is_of_other_class Digit) v _ (omega arith) c.fits-bytes.1
    (zip2_of_maps at_most _ _ v (splat_is_map v 32 10 long) (zip2_of_maps minus _ _ v (itself v) (splat_is_map v 32 48 long)))
    tt
