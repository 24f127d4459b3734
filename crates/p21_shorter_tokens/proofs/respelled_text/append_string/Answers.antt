use Rattle.p21_shorter_tokens.proofs.Respelling.{text-respelled}
use Rattle.p21_shorter_tokens.proofs.respelled_text.append_string.Goals as goal

pub returns-clause-some : goal.returns-clause-some
returns-clause-some c =
    text-respelled c.args.bytes.now c.in_ok-inside.inside.now c.in_ok-count.count c.in_ok-count.characters c.args.draft.now c.put.new.self c.append_inside.new.draft c.put-2.new.self
    (c.in_ok-inside.ensures.some) (c.in_ok-count.ensures.some) (c.if-not-put.ensures {u = tt}) (c.if-not-put-2.ensures {u = tt})
