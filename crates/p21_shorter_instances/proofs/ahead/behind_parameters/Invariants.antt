use Rattle.std.proofs.Common.{◌≤◌}
use Rattle.p21_shorter_instances.proofs.ahead.behind_parameters.Given as goal

-- each parenthesis that is open stood before
abbrev pub invariant-loop-at : goal.invariant-loop-at
invariant-loop-at l = l.open ≤ l.at
