use Rattle.std.proofs.Common.{◌+◌, arith}
use Rattle.p21_spec_basics.proofs.Members.{rest_is}
use Rattle.p21_shorter_tokens.proofs.Gaps.{ends_at, no_end}
use Rattle.p21_shorter_tokens.proofs.gap.behind_end.Goals as goal

pub returns-then-inside-i-eq47-clause-some : goal.returns-then-inside-i-eq47-clause-some
returns-then-inside-i-eq47-clause-some c =
    ends_at c.args.inside.now _ c.loop-i.i (omega arith) c.loop-i-test.true c.if-inside-i-eq42.true c.if-inside-i-eq47.true c.loop-i.invariant (rest_is c.args.inside.now (c.loop-i.i + 1))

pub returns-clause-none : goal.returns-clause-none
returns-clause-none c = no_end c.args.inside.now c.loop-i.i (omega arith) c.loop-i.invariant
