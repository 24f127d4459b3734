use Rattle.p21_stream_store.proofs.NotedLemmas.{all_still_noted, still_noted}
use Rattle.p21_stream_store.proofs.instances.Instances.push.Goals as goal

pub invariant_of-self-then-note_membership : goal.invariant_of-self-then-note_membership
invariant_of-self-then-note_membership c = (
  still_noted c.self.inside.noted c.make_place.new.noted c.note_membership.new.noted _ _ _ _ _ _ c.self.invariant.0 c.in-Ok.ensures.same
      c.note_membership.ensures.noted c.in-Ok-push.ensures.ok,
  λ noted. all_still_noted c.self.inside.noted c.make_place.new.noted c.note_membership.new.noted _ _ _ _ _ (c.self.invariant.1 noted)
      c.in-Ok.ensures.same c.if-note_membership.ensures.noted c.in-Ok-push.ensures.ok,
)

pub invariant_of-self-2 : goal.invariant_of-self-2
invariant_of-self-2 c = (
  still_noted c.self.inside.noted c.make_place.new.noted c.note_membership.new.noted _ _ _ _ _ _ c.self.invariant.0 c.in-Ok.ensures.same
      c.note_membership.ensures.noted c.in-Ok-push.ensures.ok,
  λ noted name there none. cc,
)
