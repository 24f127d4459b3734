use Rattle.p21_shorter_tokens.proofs.ExponentParts.{no_exponent-ends}
use Rattle.p21_shorter_tokens.proofs.exponent.split_exponent.Goals as goal

pub returns : goal.returns
returns c = no_exponent-ends c.args.bytes.now c.requires (c.begins_exponent.ensures.0 c.if-begins_exponent.false)
