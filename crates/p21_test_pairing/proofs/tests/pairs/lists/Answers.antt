use Rattle.std.specs.Prelude.{List}
use Rattle.std.proofs.Common.{sym, subst}
use Rattle.p21_mapping_values.specs.declared.value.Value.{Value}
use Rattle.p21_mapping_values.specs.KnownTypes.{HaveKnownTypes}
use Rattle.p21_mapping_values.specs.View.{views}
use Rattle.p21_test_pairing.proofs.Known.{list-known}
use Rattle.p21_test_pairing.proofs.tests.pairs.lists.Goals as goal

pub loop-targets-init : goal.loop-targets-init
loop-targets-init c = let P : List Value → Type 0 = λ vs. HaveKnownTypes c.args.schema.now (views vs) in subst P (sym c.new-all.ensures.items) tt

pub loop-targets-preserved : goal.loop-targets-preserved
loop-targets-preserved c =
    let P : List Value → Type 0 = λ vs. HaveKnownTypes c.args.schema.now (views vs) in
    subst P (sym c.in_ok-push.ensures.items) (list-known c.args.schema.now c.loop-targets.all.items _ c.loop-targets.invariant c.in_ok-uses.ensures)

pub returns : goal.returns
returns c = let P : List Value → Type 0 = λ vs. HaveKnownTypes c.args.schema.now (views vs) in subst P (sym c.from_vec.ensures) c.loop-targets.invariant
