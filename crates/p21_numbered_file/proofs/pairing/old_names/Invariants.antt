use Rattle.p21_numbering.specs.Instances.{file_instances, names_of}
use Rattle.p21_numbering.specs.NewNames.{new_name}
use Rattle.p21_numbered_file.proofs.PairedTexts.{BackBelow}
use Rattle.p21_numbered_file.proofs.pairing.old_names.Given as goal

abbrev pub invariant-loop-k : goal.invariant-loop-k
invariant-loop-k l = BackBelow l.old (new_name l.names) (names_of (file_instances l.instances)) l.k
