use Rattle.p21_shorter_tokens.proofs.Gaps.{HasNoEnd}
use Rattle.p21_shorter_tokens.proofs.gap.behind_end.Given as goal

-- no `*/` ended before
abbrev pub invariant-loop-i : goal.invariant-loop-i
invariant-loop-i l = HasNoEnd l.inside l.i
