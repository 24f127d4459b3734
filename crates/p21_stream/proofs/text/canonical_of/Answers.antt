use Rattle.p21_stream.proofs.Texts.{text-accepted, text-refused}
use Rattle.p21_stream.proofs.text.canonical_of.Goals as goal

pub returns-in-Err-clause-err : goal.returns-in-Err-clause-err
returns-in-Err-clause-err c =
    text-refused _ _ c.new-session.result c.feed.new.self c.args.text.now c.in-Err.refusal c.new-session.ensures.schema
    c.new-session.ensures.limits c.new-session.ensures.stands c.type_inv.text c.in-Err.ensures.gives

pub returns-in-Ok-text_of-clause-ok : goal.returns-in-Ok-text_of-clause-ok
returns-in-Ok-text_of-clause-ok c =
    text-accepted c.args.schema.now c.requires.formed _ c.requires.limits c.new-session.result c.feed.new.self c.args.text.now _
    c.in-Ok-finish.accepted c.new-session.ensures.schema c.new-session.ensures.limits c.in-Ok.ensures.schema
    c.new-session.ensures.stands c.in-Ok.ensures.gives c.in-Ok-finish.ensures.gives c.in-Ok-text_of.ensures.ok

pub returns-clause-err : goal.returns-clause-err
returns-clause-err c = λ other. absurd (other c.in-Err-text_of.ensures.err)

pub returns-clause-kind : goal.returns-clause-kind
returns-clause-kind c = rw c.in-Err-text_of.ensures.err tt
