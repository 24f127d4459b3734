use Rattle.std.proofs.Common.{take}
use Rattle.p21_numbered_file.specs.Headings.{AreTextsOf}
use Rattle.p21_numbered_file.proofs.headings.heading_texts.Given as goal

abbrev pub invariant-loop-k : goal.invariant-loop-k
invariant-loop-k l = AreTextsOf (take l.k l.sections) l.all.items
