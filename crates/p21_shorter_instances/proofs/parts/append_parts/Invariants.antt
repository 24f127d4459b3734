use Rattle.std.proofs.Common.{take}
use Rattle.p21_express_graph.specs.Orders.{numbers}
use Rattle.p21_shorter_instances.specs.Records.{TakesParts}
use Rattle.p21_shorter_instances.specs.TakenValues.{KeepsNeeds}
use Rattle.p21_values.specs.Canonical.{Continues}
use Rattle.p21_shorter_instances.proofs.parts.append_parts.Given as goal

-- the simple records of the entities so far are taken
abbrev pub invariant-loop-owner : goal.invariant-loop-owner
invariant-loop-owner l = record {
  takes : TakesParts l.schema (numbers l.set) (numbers (take l.owner-index l.set)) l.bytes l.rest l.fn.taken l.taken;
  draft : Continues l.fn.taken.draft l.taken.draft;
  needs : KeepsNeeds l.fn.taken.needs.items l.taken.needs.items;
}
