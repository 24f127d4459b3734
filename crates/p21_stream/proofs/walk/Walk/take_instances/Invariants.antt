use Rattle.std.proofs.Common.{◌-◌, length}
use Rattle.p21_shorter_instances.specs.Taker.{IsTakerOf}
use Rattle.p21_stream.proofs.TakenInstances.{AreTaken}
use Rattle.p21_stream.proofs.walk.Walk.take_instances.Given as goal

-- the instances so far are taken
abbrev pub invariant-loop-taken : goal.invariant-loop-taken
invariant-loop-taken l = record {
  so_far : AreTaken l.schema l.limits l.initial.self.statements l.initial.self.kept l.piece l.self.statements l.self.kept l.count;
  taker : IsTakerOf l.schema l.self.taker;
}

-- each instance has bytes
abbrev pub decreases-loop-taken : goal.decreases-loop-taken
decreases-loop-taken l = length l.piece - l.count
