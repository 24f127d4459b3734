use Rattle.p21_shorter_tokens.proofs.Respelling.{canonical-respelled}
use Rattle.p21_shorter_tokens.proofs.respelled_text.append_some.Goals as goal

pub returns-clause-some : goal.returns-clause-some
returns-clause-some c = canonical-respelled c.args.rest.now c.some_characters-count.result.0 c.some_characters-count.result.1 c.args.draft.now c.append_prefix.new.self c.some_characters-count.ensures (c.if-not-append_prefix.ensures {u = tt})
