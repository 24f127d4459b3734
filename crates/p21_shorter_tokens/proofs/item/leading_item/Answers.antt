use Rattle.p21_shorter_tokens.proofs.ItemTokens.{item-size}
use Rattle.p21_shorter_tokens.proofs.LeadingTokens.{scanned}
use Rattle.p21_shorter_tokens.proofs.item.leading_item.Goals as goal

pub returns : goal.returns
returns c = scanned c.args.bytes.now _ _ _ c.in_ok-word.ensures.some (item-size c.in_ok-word.word.now)
