use Rattle.std.proofs.Common.{◌∷◌, subst}
use Rattle.p21_scan.proofs.Binaries.{padded_digits}
use Rattle.p21_scan.specs.Hex.{AllHexDigits}
use Rattle.p21_scan.proofs.binary.is_padded.Goals as goal

pub returns-in-Some : goal.returns-in-Some
returns-in-Some c =
    let first = c.in-Some.first.now in
    let rest = c.in-Some.field-0-1.now in
    let split = c.in-Some.ensures.cases.0 in
    let hex : AllHexDigits (first ∷ rest) = subst AllHexDigits split c.requires.digits in
    padded_digits c.args.padding first c.hex_value.result rest c.args.digits.now c.requires.padding hex.0 c.hex_value.ensures.value split
