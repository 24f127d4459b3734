use Rattle.std.proofs.Common.{◌-◌, ◌^◌}
use Rattle.p21_shorter_instances.specs.Taker.{IsTakerOf}
use Rattle.p21_stream.proofs.Walking.{IsRest}
use Rattle.p21_stream.proofs.walk.Walk.read.Given as goal

-- what the rest gives, the piece gives
abbrev pub invariant-loop-taken : goal.invariant-loop-taken
invariant-loop-taken l = record {
  rest : IsRest l.schema l.limits l.initial.self.statements l.initial.self.kept l.piece l.self.statements l.self.kept l.rest l.rounds;
  taker : IsTakerOf l.schema l.self.taker;
}

abbrev pub decreases-loop-taken : goal.decreases-loop-taken
decreases-loop-taken l = 2 ^ 64 - l.rounds
