use Rattle.std.proofs.Common.{◌≡◌, map, take}
use Rattle.p21_model_uses.specs.Tables.{user_of}
use Rattle.p21_model_uses.proofs.references.users_of.Given as goal

-- those of the rows so far
abbrev pub invariant-loop-at : goal.invariant-loop-at
invariant-loop-at l = l.users.items ≡ map user_of (take l.at l.rows)
