use Rattle.std.proofs.Common.{ℕ, List, length}
use Rattle.p21_shorter_tokens.specs.Gaps.{PassesSeparators}
use Rattle.p21_shorter_tokens.proofs.gap.behind_many.Given as goal

-- what is behind the separators that are left is behind those of all
abbrev pub invariant-loop-next : goal.invariant-loop-next
invariant-loop-next l = (end : List ℕ) → PassesSeparators l.rest end → PassesSeparators l.bytes end

abbrev pub decreases-loop-next : goal.decreases-loop-next
decreases-loop-next l = length l.rest
