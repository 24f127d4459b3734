use Rattle.std.proofs.Common.{◌≡◌, ◌<◌, ◌++◌, length, map}
use Rattle.std.specs.List.{AllByRecursion as Each}
use Rattle.std.specs.Vec.Iter.{into_iter_items}
use Rattle.p21_numbering.specs.Instances.{file_instances}
use Rattle.p21_numbered_file.specs.Instances.{instance_in}
use Rattle.p21_numbered_file.specs.declared.read_file.ReadInstance.{ReadInstance}
use Rattle.p21_numbered_file.proofs.numbering.named_instances.Given as goal

abbrev pub invariant-loop-one : goal.invariant-loop-one
invariant-loop-one l = record {
  named : file_instances l.named.items ++ map (instance_in l.texts) (into_iter_items l.one-iterator) ≡ map (instance_in l.texts)
      l.fn.instances.items;
  low : Each (λ (i : ReadInstance). i.section < length l.texts) (into_iter_items l.one-iterator);
}
