use Rattle.std.proofs.Common.{bit_or, arith}
use Rattle.std.proofs.lemmas.Simd.{zip2_of_maps, splat_is_map}
use Rattle.p21_scan.specs.Class.{is_of_other_class}
use Rattle.p21_scan.specs.declared.class.Class.TheVariants.{Plain}
use Rattle.p21_scan.proofs.Lanes.{equal, below, at_most, itself, mask-tests}
use Rattle.p21_scan.proofs.wide.no_plain_bytes.Goals as goal

pub returns : goal.returns
returns c =
    let v = c.args.bytes in
    let long = c.fits-bytes.0 in
    mask-tests _ (is_of_other_class Plain) v _ (omega arith) c.fits-bytes.1
    (zip2_of_maps bit_or _ _ v
    (zip2_of_maps bit_or _ _ v
    (zip2_of_maps bit_or _ _ v
    (zip2_of_maps below _ _ v (itself v) (splat_is_map v 32 32 long))
    (zip2_of_maps at_most _ _ v (splat_is_map v 32 127 long) (itself v)))
    (zip2_of_maps equal _ _ v (itself v) (splat_is_map v 32 39 long)))
    (zip2_of_maps equal _ _ v (itself v) (splat_is_map v 32 92 long)))
    tt
