use Rattle.std.proofs.Common.{◌≡◌, drop}
use Rattle.p21_model.specs.Line.{behind_equals}
use Rattle.p21_model.proofs.record.record_of.Given as goal

-- no `=` stood before
abbrev pub invariant-loop-at : goal.invariant-loop-at
invariant-loop-at l = behind_equals (drop l.at l.line) ≡ behind_equals l.line
