use Rattle.std.proofs.Common.{◌-◌, length}
use Rattle.p21_shorter_tokens.specs.Respelling.{AreGroups, Respells}
use Rattle.p21_shorter_tokens.proofs.groups.append_groups.Given as goal

-- the groups so far are respelled
abbrev pub invariant-loop-count : goal.invariant-loop-count
invariant-loop-count l = Respells (AreGroups l.width) l.groups l.count l.characters l.fn.draft l.draft

abbrev pub decreases-loop-count : goal.decreases-loop-count
decreases-loop-count l = length l.groups - l.count
