use Rattle.std.proofs.Common.{◌≡◌, ◌≤◌, take}
use Rattle.p21_commands.specs.CheckAll.{has_read_fault, listed_count}
use Rattle.p21_commands.proofs.check_all.count_of.Given as goal

-- the refusals so far are counted
abbrev pub invariant-loop-refusal : goal.invariant-loop-refusal
invariant-loop-refusal l = (l.count ≡ listed_count (take l.refusal-index l.list))
    × (l.unread ≡ has_read_fault (take l.refusal-index l.list)) × (l.count ≤ l.refusal-index)
