use Rattle.std.proofs.Common.{arith}
use Rattle.p21_shorter_tokens.proofs.MaskLanes.{others-shown, zeros-shown}
use Rattle.p21_shorter_tokens.proofs.masks.digit_masks.Goals as goal

pub returns-clause-others : goal.returns-clause-others
returns-clause-others c = others-shown c.args.bytes.now c.args.at 16 (omega arith) c.requires (λ k. (c.type_inv.bytes k).fits)

pub returns-clause-zeros : goal.returns-clause-zeros
returns-clause-zeros c = zeros-shown c.args.bytes.now c.args.at 16 (omega arith) c.requires (λ k. (c.type_inv.bytes k).fits)
