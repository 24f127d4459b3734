use Rattle.std.proofs.Common.{◌≡◌, ℕ, List, Option, slice_get, Some, length}
use Rattle.p21_express.specs.AttributeNames.{IsKept}
use Rattle.p21_express.proofs.attribute_names.AttributeNames.of.Given as goal

-- those so far are the names of their entities
abbrev pub invariant-loop-number : goal.invariant-loop-number
invariant-loop-number l = (length l.of_each.items ≡ l.number)
    × ((e : ℕ) (kept : Option (List (List ℕ))) → slice_get l.of_each.items e ≡ Some kept → IsKept l.hierarchy e kept)
