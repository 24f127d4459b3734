use Rattle.std.proofs.Common.{◌≡◌, take}
use Rattle.p21_numbered_file.specs.Sizes.{sections_size}
use Rattle.p21_numbered_file.proofs.sizes.sections_size.Given as goal

abbrev pub invariant-loop-k : goal.invariant-loop-k
invariant-loop-k l = l.size ≡ sections_size (take l.k l.parts)
