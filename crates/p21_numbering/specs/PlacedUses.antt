-- References with the ways to them, without addresses.
use Rattle.std.specs.Prelude.{ℕ, List, map, ◌++◌}
use Rattle.p21_spec_numbering.specs.Uses.{Use}
use Rattle.p21_numbering.specs.declared.uses.PlacedUse.{PlacedUse}

-- the references without addresses
abbrev pub held_uses : List PlacedUse → List Use
held_uses uses = map (λ u. (u.place.items, u.target)) uses

-- the use of what stands at this place
abbrev pub behind : List ℕ → Use → Use
behind place u = (place ++ u.0, u.1)
