use Rattle.std.proofs.Common.{◌≡◌, take}
use Rattle.std.specs.Prelude.{map}
use Rattle.std.specs.List.{AllByRecursion as Each}
use Rattle.p21_model_uses.specs.Tables.{IsWithin, told_by, user_and_place}
use Rattle.p21_model_uses.proofs.references.references_of.Given as goal

-- the references of the rows so far
abbrev pub invariant-loop-at : goal.invariant-loop-at
invariant-loop-at l = (map (told_by l.users l.places) l.references.items ≡ map user_and_place (take l.at l.rows))
    × Each (IsWithin l.users l.places) l.references.items
