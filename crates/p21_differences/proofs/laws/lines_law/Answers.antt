use Rattle.p21_differences.proofs.FileLines.{lines-are_of_meaning}
use Rattle.p21_differences.proofs.laws.lines_law.Goals as goal

pub returns : goal.returns
returns c = record { of_meaning = lines-are_of_meaning }
