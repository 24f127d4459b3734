use Rattle.std.proofs.Common.{◌≡◌, length}
use Rattle.p21_schema.specs.RisingSets.{EachRising}
use Rattle.p21_schema.proofs.rising.all_rising_sets.Given as goal

abbrev pub invariant-loop-number : goal.invariant-loop-number
invariant-loop-number l = (length l.sets.items ≡ l.number) × EachRising l.hierarchy l.sets.items
