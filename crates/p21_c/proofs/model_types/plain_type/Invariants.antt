use Rattle.std.proofs.Common.{◌≡◌}
use Rattle.p21_c.specs.Types.{told_at}
use Rattle.p21_express_graph.specs.Meaning.{type_use}
use Rattle.p21_c.proofs.model_types.plain_type.Given as goal

-- so many aggregates further it is the same
abbrev pub invariant-loop-left : goal.invariant-loop-left
invariant-loop-left l = told_at l.left l.optional (type_use l.found) ≡ told_at l.fn.depth l.fn.optional (type_use l.fn.of)

abbrev pub decreases-loop-left : goal.decreases-loop-left
decreases-loop-left l = l.left
