use Rattle.std.proofs.Common.{◌∙◌}
use Rattle.p21_c.proofs.Answering.{text-accepted}
use Rattle.p21_c.proofs.accepting.accept_text.Goals as goal
use Rattle.p21_stream.proofs.Texts.{text-refused}

pub returns-in-Err-clause-err : goal.returns-in-Err-clause-err
returns-in-Err-clause-err c = (
  text-refused _ _ c.new-session.result c.feed.new.self c.args.text.now c.in-Err.refusal c.new-session.ensures.schema
      (c.new-session.ensures.limits ∙ c.usual-limits.ensures) c.new-session.ensures.stands c.type_inv.text c.in-Err.ensures.gives,
  c.in-Err.ensures.kind,
)

pub returns-in-Ok-finish-clause-ok : goal.returns-in-Ok-finish-clause-ok
returns-in-Ok-finish-clause-ok c =
    text-accepted c.args.schema.now _ c.usual-limits.ensures c.headline.ensures.claim c.new-session.result c.feed.new.self c.args.text.now
    c.in-Ok-finish.accepted c.new-session.ensures.schema c.new-session.ensures.limits c.in-Ok.ensures.schema
    c.new-session.ensures.stands c.in-Ok.ensures.gives c.in-Ok-finish.ensures.gives
