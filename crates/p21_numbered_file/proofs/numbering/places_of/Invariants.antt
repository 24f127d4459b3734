use Rattle.std.proofs.Common.{◌≡◌, map, take}
use Rattle.p21_numbered_file.specs.declared.read_file.ReadInstance.{ReadInstance}
use Rattle.p21_numbered_file.proofs.numbering.places_of.Given as goal

abbrev pub invariant-loop-k : goal.invariant-loop-k
invariant-loop-k l = l.places.items ≡ map (λ (i : ReadInstance). i.section) (take l.k l.instances)
