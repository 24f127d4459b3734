use Rattle.std.proofs.Common.{◌≡◌, ◌<◌, ◌^◌, take}
use Rattle.p21_spec_basics.specs.Digits.{hex_digits}
use Rattle.p21_model_values.proofs.characters.hex_number.Given as goal

-- the number of the digits so far
abbrev pub invariant-loop-digit : goal.invariant-loop-digit
invariant-loop-digit l = record {
  digits_are : take l.digit-index l.digits ≡ hex_digits l.digit-index l.code;
  small : l.code < 16 ^ l.digit-index;
}
