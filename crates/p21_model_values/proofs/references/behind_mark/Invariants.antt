use Rattle.std.proofs.Common.{◌≡◌, false, drop}
use Rattle.p21_model_values.specs.Named.{names_in}
use Rattle.p21_model_values.proofs.references.behind_mark.Given as goal

-- no name stood before
abbrev pub invariant-loop-at : goal.invariant-loop-at
invariant-loop-at l = names_in (drop l.at l.bytes) l.quoted ≡ names_in l.bytes false
