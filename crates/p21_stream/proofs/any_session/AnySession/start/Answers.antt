use Rattle.p21_stream.proofs.PieceFeeding.{bounded-new, nothing-is, stands-new}
use Rattle.p21_stream.proofs.any_session.AnySession.start.Goals as goal

pub invariant_of-result : goal.invariant_of-result
invariant_of-result c = (
  bounded-new c.args.schema.now c.args.limits c.new.result.walk.statements c.new.result.walk.kept c.new.result.refused c.new.ensures.live
      c.new.ensures.counted c.new.ensures.limits (nothing-is c.args.kept c.new.result.walk.kept c.new.ensures.kept c.requires)
      c.new.ensures.refused,
  c.new.ensures.taker c.args.schema.now,
)

pub returns-clause-stands : goal.returns-clause-stands
returns-clause-stands c = stands-new c.args.schema.now c.args.limits c.new.result.walk.statements c.new.result.walk.kept
    c.new.result.refused c.new.ensures.live c.new.ensures.counted c.new.ensures.limits
    (nothing-is c.args.kept c.new.result.walk.kept c.new.ensures.kept c.requires) c.new.ensures.refused
