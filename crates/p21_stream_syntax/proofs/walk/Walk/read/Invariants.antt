use Rattle.std.proofs.Common.{◌-◌, ◌^◌}
use Rattle.p21_stream_syntax.proofs.Walking.{IsRest}
use Rattle.p21_stream_syntax.specs.Given.{kept_of}
use Rattle.p21_stream_syntax.proofs.walk.Walk.read.Given as goal

-- what the rest gives, the piece gives
abbrev pub invariant-loop-taken : goal.invariant-loop-taken
invariant-loop-taken l = IsRest l.initial.self.statements (kept_of l.initial.self.given) l.piece l.self.statements (kept_of l.self.given)
    l.rest l.rounds

abbrev pub decreases-loop-taken : goal.decreases-loop-taken
decreases-loop-taken l = 2 ^ 64 - l.rounds
