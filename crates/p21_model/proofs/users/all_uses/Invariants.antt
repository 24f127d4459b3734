use Rattle.std.proofs.Common.{◌-◌, ◌^◌}
use Rattle.p21_model.proofs.UsesFound.{HaveUsesBelow}
use Rattle.p21_model.specs.Kept.{AreStated, HaveOneLine}
use Rattle.p21_model.proofs.users.all_uses.Given as goal

-- the uses by the instances below the next name
abbrev pub invariant-loop-instance : goal.invariant-loop-instance
invariant-loop-instance l =
    AreStated l.model.schema.now l.model.accepted.now.kept → HaveOneLine l.model.accepted.now.kept
    → HaveUsesBelow l.model.schema.now l.model.accepted.now.kept l.least l.rows.items

abbrev pub decreases-loop-instance : goal.decreases-loop-instance
decreases-loop-instance l = 2 ^ 64 - l.least
