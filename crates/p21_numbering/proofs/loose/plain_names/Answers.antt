use Rattle.std.specs.Prelude.{◌++◌, ℕ, List, Option, take}
use Rattle.std.proofs.Common.{ap, sym, ◌∙◌}
use Rattle.p21_numbering.specs.Standing.{listed, plain_names}
use Rattle.p21_mapping_values.specs.View.{views}
use Rattle.p21_numbering.proofs.FirstFound.{plain-next}
use Rattle.p21_numbering.proofs.loose.plain_names.Goals as goal

pub loop-value-preserved : goal.loop-value-preserved
loop-value-preserved c =
    c.in_ok-names.ensures
    ∙ ap (λ (ns : List ℕ). ns ++ listed c.plain_name.result) c.loop-value.invariant
    ∙ ap (λ (o : Option ℕ). plain_names (views (take c.loop-value.value-index c.args.values.now)) ++ listed o) c.plain_name.ensures
    ∙ sym (plain-next c.args.values.now c.loop-value.value-index c.value-item.result c.value-item.is c.loop-value-test.true)
