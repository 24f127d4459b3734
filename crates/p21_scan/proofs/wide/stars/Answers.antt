use Rattle.std.proofs.Common.{arith}
use Rattle.std.proofs.lemmas.Simd.{zip2_of_maps, splat_is_map}
use Rattle.p21_scan.specs.Class.{is_of_other_class}
use Rattle.p21_scan.specs.declared.class.Class.TheVariants.{Commented}
use Rattle.p21_scan.proofs.Lanes.{equal, itself, mask-tests}
use Rattle.p21_scan.proofs.wide.stars.Goals as goal

pub returns : goal.returns
returns c =
    let v = c.args.bytes in
    let long = c.fits-bytes.0 in
    mask-tests _ (is_of_other_class Commented) v _ (omega arith) c.fits-bytes.1 (zip2_of_maps equal _ _ v (itself v) (splat_is_map v 32 42 long)) tt
