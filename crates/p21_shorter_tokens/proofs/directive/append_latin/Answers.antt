use Rattle.p21_shorter_tokens.proofs.Respelling.{latin_respelled}
use Rattle.p21_shorter_tokens.proofs.directive.append_latin.Goals as goal

pub returns-clause-some : goal.returns-clause-some
returns-clause-some c = latin_respelled _ _ c.args.code _ _ c.requires (rw c.from.ensures at (c.if-not-append_character.ensures {u = tt}))
