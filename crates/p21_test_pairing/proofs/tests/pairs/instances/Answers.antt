use Rattle.std.specs.List.{AllByRecursion as Each}
use Rattle.std.specs.Prelude.{List}
use Rattle.std.proofs.Common.{sym, subst}
use Rattle.p21_numbering.specs.declared.instances.Instance.{Instance as Code}
use Rattle.p21_numbering.specs.Instances.{Instance, file_instances}
use Rattle.p21_numbering.specs.NodesOf.{HasKnownParts}
use Rattle.p21_test_pairing.proofs.Known.{parts-more}
use Rattle.p21_test_pairing.proofs.tests.pairs.instances.Goals as goal

pub loop-one-init : goal.loop-one-init
loop-one-init c =
    let P : List Code → Type 0 = λ all. Each (λ (i : Instance). HasKnownParts c.args.schema.now i.typed) (file_instances all) in
    subst P (sym c.new-all.ensures.items) tt

pub loop-one-preserved : goal.loop-one-preserved
loop-one-preserved c =
    let P : List Code → Type 0 = λ all. Each (λ (i : Instance). HasKnownParts c.args.schema.now i.typed) (file_instances all) in
    subst P (sym c.in_ok-push.ensures.items) (parts-more c.args.schema.now c.loop-one.all.items _ c.loop-one.invariant c.in_ok-typed.ensures)
