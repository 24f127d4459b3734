use Rattle.p21_stream_store.proofs.InstanceLemmas.{also_same, among_instances, one_added}
use Rattle.p21_stream_store.proofs.RoomLemmas.{pushed}
use Rattle.p21_stream_store.proofs.SeenLemmas.{also_seen}
use Rattle.p21_stream_store.proofs.named_lines.NamedLines.push.Goals as goal

pub push-requires : goal.push-requires
push-requires c there = c.requires (among_instances _ _ _ c.self.view_is c.self.invariant.texts c.args.name there)

pub invariant_of-self-2 : goal.invariant_of-self-2
invariant_of-self-2 c = record {
  texts = also_same _ _ _ _ _ _ c.self.invariant.texts c.in-Ok-push.ensures.ok
      (pushed _ _ _ _ c.push_reserved.ensures c.in-Ok-reserve.ensures.same);
  seen = also_seen _ _ _ _ c.args.name c.in-Ok-push.ensures.ok c.self.invariant.seen c.in-Ok.ensures.others c.in-Ok.ensures.noted;
}

pub returns-clause-ok : goal.returns-clause-ok
returns-clause-ok c = one_added _ _ _ _ _ _ c.self.invariant.texts c.in-Ok-push.ensures.ok
    (pushed _ _ _ _ c.push_reserved.ensures c.in-Ok-reserve.ensures.same) _ c.self.view_is
