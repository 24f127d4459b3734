use Rattle.std.proofs.Common.{◌+◌, ◌*◌, arith}
use Rattle.p21_tolerance.proofs.sums.Ahead.then.Goals as goal

pub returns-then-left-right-clause-same : goal.returns-then-left-right-clause-same
returns-then-left-right-clause-same c = (c.args.self.left * 10 + c.args.left, omega arith, omega arith)

pub returns-else-left-right-clause-same : goal.returns-else-left-right-clause-same
returns-else-left-right-clause-same c = (c.args.self.right * 10 + c.args.right, omega arith, omega arith)
