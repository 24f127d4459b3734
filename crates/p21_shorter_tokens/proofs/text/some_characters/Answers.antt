use Rattle.p21_shorter_tokens.proofs.TextTokens.{plain-characters}
use Rattle.p21_shorter_tokens.proofs.text.some_characters.Goals as goal

pub returns-in_default : goal.returns-in_default
returns-in_default c = plain-characters c.args.rest.now c.plain_characters-count.result c.plain_characters-count.ensures.are
