use Rattle.p21_shorter_instances.proofs.taker.Taker.take.Goals as goal

pub begin_instance-requires-clause-plan : goal.begin_instance-requires-clause-plan
begin_instance-requires-clause-plan c = c.requires.plan

pub begin_instance-requires-clause-sets : goal.begin_instance-requires-clause-sets
begin_instance-requires-clause-sets c = c.requires.sets

pub end-requires-clause-taker : goal.end-requires-clause-taker
end-requires-clause-taker c = record { plan = c.in-Ok.ensures.plan; sets = c.in-Ok.ensures.sets }

pub end-requires-clause-begun : goal.end-requires-clause-begun
end-requires-clause-begun c = record {
  old = c.forget.new.taken;
  no_text = c.forget.ensures.draft;
  no_needs = c.forget.ensures.needs;
  begins = c.in-Ok.ensures.some;
}
