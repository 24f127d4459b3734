use Rattle.std.specs.Prelude.{◌≡◌, length}
use Rattle.p21_numbering.specs.Instances.{file_instances}
use Rattle.p21_pairing.proofs.NewNames.{AreNamedTo}
use Rattle.p21_pairing.proofs.names.new_names.Given as goal

abbrev pub invariant-loop-k : goal.invariant-loop-k
invariant-loop-k l = record {
  size : length l.news.items ≡ l.k;
  names : AreNamedTo l.partners (file_instances l.second) l.news.items l.next;
}
