use Rattle.std.proofs.Common.{refl}
use Rattle.p21_shorter_tokens.proofs.LeadingTokens.{scanned}
use Rattle.p21_shorter_tokens.proofs.keyword.leading_keyword.Goals as goal

pub returns : goal.returns
returns c = scanned c.args.bytes.now _ _ _ c.in_ok-word.ensures.some refl
