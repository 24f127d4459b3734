use Rattle.std.proofs.Common.{◌≡◌, ◌<◌, ℕ, List, slice_index, ap, sym, subst, ◌∙◌}
use Rattle.p21_scan.specs.Hex.{hex_value}
use Rattle.p21_scan.proofs.HexRuns.{digit-decodes, hex_back, not-refused, one-byte}
use Rattle.p21_scan.proofs.hex_digits.hex_value.Goals as goal

value : (c : goal.In-Ok) → slice_index c.in-Ok.bytes 0 ≡ hex_value c.args.digit
value c = ap (λ (x : List ℕ). slice_index x 0) (one-byte (hex_value c.args.digit) c.from_hex.result c.in-Ok.bytes c.in-Ok.is (c.from_hex.ensures ∙ digit-decodes c.args.digit c.requires))

pub returns-in-Ok-clause-value : goal.returns-in-Ok-clause-value
returns-in-Ok-clause-value c = value c

pub returns-in-Ok-clause-small : goal.returns-in-Ok-clause-small
returns-in-Ok-clause-small c = subst (λ (x : ℕ). x < 16) (sym (value c)) (hex_back c.args.digit c.requires).0

pub returns-in-Err-clause-value : goal.returns-in-Err-clause-value
returns-in-Err-clause-value c = absurd (not-refused (hex_value c.args.digit) c.from_hex.result c.in-Err._fault c.in-Err.is (c.from_hex.ensures ∙ digit-decodes c.args.digit c.requires))
