use Rattle.std.proofs.Common.{refl}
use Rattle.p21_shorter_tokens.proofs.TextTokens.{text-at_front}
use Rattle.p21_shorter_tokens.proofs.text.leading_text.Goals as goal

pub returns : goal.returns
returns c = text-at_front c.args.bytes.now c.in_ok-inside.inside.now c.inside_text-count.result.0 c.inside_text-count.result.1 c.in_ok-inside.ensures.some c.inside_text-count.ensures (c.if-not-ends_text.ensures.0 refl)
