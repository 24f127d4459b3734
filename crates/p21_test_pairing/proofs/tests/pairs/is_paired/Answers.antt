use Rattle.std.specs.List.{AllByRecursion as Each}
use Rattle.std.specs.Prelude.{List}
use Rattle.std.proofs.Common.{sym, subst}
use Rattle.p21_numbering.specs.declared.instances.Instance.{Instance as Code}
use Rattle.p21_numbering.specs.Instances.{Instance, file_instances}
use Rattle.p21_numbering.specs.NodesOf.{HasKnownParts}
use Rattle.p21_test_pairing.proofs.tests.pairs.is_paired.Goals as goal

pub partners-requires-clause-first : goal.partners-requires-clause-first
partners-requires-clause-first c =
    let P : List Code → Type 0 = λ all. Each (λ (i : Instance). HasKnownParts c.args.schema.now i.typed) (file_instances all) in
    subst P (sym c.deref.ensures.value) c.in_ok-one.ensures

pub partners-requires-clause-second : goal.partners-requires-clause-second
partners-requires-clause-second c =
    let P : List Code → Type 0 = λ all. Each (λ (i : Instance). HasKnownParts c.args.schema.now i.typed) (file_instances all) in
    subst P (sym c.deref-2.ensures.value) c.in_ok-other.ensures
