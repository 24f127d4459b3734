use Rattle.std.specs.List.{AllByRecursion as Each}
use Rattle.std.specs.Prelude.{List}
use Rattle.std.proofs.Common.{sym, subst}
use Rattle.p21_numbering.specs.declared.instances.Instance.{Instance as Code}
use Rattle.p21_numbering.specs.Instances.{Instance, file_instances}
use Rattle.p21_numbering.specs.NodesOf.{HasKnownParts}
use Rattle.p21_test_numbering.proofs.tests.files.order_of.Goals as goal

pub file_order-requires : goal.file_order-requires
file_order-requires c =
    let P : List Code → Type 0 = λ all. Each (λ (i : Instance). HasKnownParts c.args.schema.now i.typed) (file_instances all) in
    subst P (sym c.deref.ensures.value) c.in_ok-all.ensures
