use Rattle.std.proofs.Common.{arith}
use Rattle.std.proofs.lemmas.Simd.{zip2_of_maps, splat_is_map}
use mathlib.Core.Bool.{not}
use Rattle.p21_scan.proofs.Lanes.{at_most, minus, itself, mask-tests}
use Rattle.p21_scan.proofs.row.no_digits.Goals as goal
use Rattle.p21_spec_basics.specs.Digits.{is_digit}

pub returns : goal.returns
returns c =
    let v = c.args.bytes in
    let long = c.fits-bytes.0 in
    mask-tests _ (λ byte. not (is_digit byte)) v _ (omega arith) c.fits-bytes.1
    (zip2_of_maps at_most _ _ v (splat_is_map v 16 10 long) (zip2_of_maps minus _ _ v (itself v) (splat_is_map v 16 48 long)))
    tt
