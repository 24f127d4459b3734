use Rattle.p21_shorter_tokens.proofs.BitTokens.{bits-at_front}
use Rattle.p21_shorter_tokens.proofs.bits.leading_bits.Goals as goal

pub returns : goal.returns
returns c = rw c.from.ensures (bits-at_front _ _ _ _ c.in_ok-binary.ensures.some)
