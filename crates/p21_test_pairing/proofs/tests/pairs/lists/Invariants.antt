use Rattle.p21_mapping_values.specs.KnownTypes.{HaveKnownTypes}
use Rattle.p21_mapping_values.specs.View.{views}
use Rattle.p21_test_pairing.proofs.tests.pairs.lists.Given as goal

abbrev pub invariant-loop-targets : goal.invariant-loop-targets
invariant-loop-targets l = HaveKnownTypes l.schema (views l.all.items)
