use Rattle.std.specs.Prelude.{◌≡◌, map, filter, take}
use Rattle.p21_spec_numbering.specs.Uses.{Use}
use Rattle.p21_numbering.specs.PlacedUses.{held_uses}
use Rattle.p21_numbering.specs.Standing.{is_shared, standing_of}
use Rattle.p21_numbering.proofs.ranked.shared_targets.Given as goal

abbrev pub invariant-loop-k : goal.invariant-loop-k
invariant-loop-k l = l.names.items ≡ filter (is_shared (standing_of l.standings)) (map (λ (u : Use). u.1) (held_uses (take l.k l.uses)))
