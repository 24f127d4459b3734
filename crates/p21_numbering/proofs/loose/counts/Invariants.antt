use Rattle.std.specs.Prelude.{take}
use Rattle.p21_numbering.specs.Standing.{IsCount, standing_of}
use Rattle.p21_numbering.proofs.loose.counts.Given as goal

abbrev pub invariant-loop-i : goal.invariant-loop-i
invariant-loop-i l = IsCount (standing_of l.standings) (take l.i l.names) l.counts
