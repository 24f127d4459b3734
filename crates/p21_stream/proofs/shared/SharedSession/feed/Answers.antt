use Rattle.std.proofs.Common.{subst, sym}
use Rattle.p21_spec_schema.specs.Schema.{Schema}
use Rattle.p21_stream.specs.Bounds.{IsBounded}
use Rattle.p21_stream.specs.Inside.{held_in}
use Rattle.p21_shorter_instances.specs.Taker.{IsTakerOf}
use Rattle.p21_stream.proofs.shared.SharedSession.feed.Goals as goal

pub feed-requires-clause-taker : goal.feed-requires-clause-taker
feed-requires-clause-taker c = subst (λ (s : Schema). IsTakerOf s c.self.inside.progress.walk.taker) (sym c.deref.ensures)
    c.self.invariant.1

pub invariant_of-self : goal.invariant_of-self
invariant_of-self c = (
  subst (λ (s : Schema). IsBounded (held_in s c.self.inside.limits c.feed.new.self)) c.deref.ensures c.feed.ensures.bounded,
  subst (λ (s : Schema). IsTakerOf s c.feed.new.self.walk.taker) c.deref.ensures c.feed.ensures.taker,
  c.feed.ensures.lines _ c.self.invariant.2,
)
