use Rattle.std.proofs.Common.{◌≤◌, ◌-◌, ◌^◌, length}
use Rattle.p21_numbered_file.specs.Reading.{IsUnderWay}
use Rattle.p21_numbered_file.proofs.reading.read_statements.Given as goal

abbrev pub invariant-loop-next : goal.invariant-loop-next
invariant-loop-next l = record {
  way : IsUnderWay l.schema l.text l.reader l.read l.from l.rounds;
  low : l.from ≤ length l.text;
}

abbrev pub decreases-loop-next : goal.decreases-loop-next
decreases-loop-next l = 2 ^ 64 - l.rounds
