use Rattle.std.specs.Prelude.{List}
use Rattle.std.proofs.Common.{sym, subst}
use Rattle.p21_mapping_values.specs.declared.value.Value.{Value}
use Rattle.p21_mapping_values.specs.KnownTypes.{HaveKnownTypes}
use Rattle.p21_mapping_values.specs.View.{views}
use Rattle.p21_test_pairing.proofs.Known.{reference-known}
use Rattle.p21_test_pairing.proofs.tests.pairs.references.Goals as goal

pub loop-target-init : goal.loop-target-init
loop-target-init c = let P : List Value → Type 0 = λ vs. HaveKnownTypes c.args.schema.now (views vs) in subst P (sym c.new-all.ensures.items) tt

pub loop-target-preserved : goal.loop-target-preserved
loop-target-preserved c =
    let P : List Value → Type 0 = λ vs. HaveKnownTypes c.args.schema.now (views vs) in
    subst P (sym c.in_ok-push.ensures.items) (reference-known c.args.schema.now c.loop-target.all.items _ c.loop-target.invariant)

pub returns : goal.returns
returns c = let P : List Value → Type 0 = λ vs. HaveKnownTypes c.args.schema.now (views vs) in subst P (sym c.from_vec.ensures) c.loop-target.invariant
