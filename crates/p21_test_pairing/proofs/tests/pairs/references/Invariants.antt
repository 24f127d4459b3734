use Rattle.p21_mapping_values.specs.KnownTypes.{HaveKnownTypes}
use Rattle.p21_mapping_values.specs.View.{views}
use Rattle.p21_test_pairing.proofs.tests.pairs.references.Given as goal

abbrev pub invariant-loop-target : goal.invariant-loop-target
invariant-loop-target l = HaveKnownTypes l.schema (views l.all.items)
