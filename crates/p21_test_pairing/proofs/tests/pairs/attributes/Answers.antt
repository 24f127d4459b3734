use Rattle.std.specs.Prelude.{List}
use Rattle.std.proofs.Common.{sym, subst}
use Rattle.p21_mapping_values.specs.declared.value.Value.{Value}
use Rattle.p21_mapping_values.specs.KnownTypes.{HaveKnownTypes}
use Rattle.p21_mapping_values.specs.View.{views}
use Rattle.p21_test_pairing.proofs.Known.{list-known}
use Rattle.p21_test_pairing.proofs.tests.pairs.attributes.Goals as goal

pub returns : goal.returns
returns c =
    let P : List Value → Type 0 = λ vs. HaveKnownTypes c.args.schema.now (views vs) in
    let one : P c.push.new.self.items = subst P (sym c.in_ok-push.ensures.items) (list-known c.args.schema.now c.new-all.result.items _ (subst P (sym c.new-all.ensures.items) tt) c.in_ok-listed.ensures) in
    let two : P c.push-2.new.self.items = subst P (sym c.in_ok-push-2.ensures.items) (list-known c.args.schema.now c.push.new.self.items _ one c.in_ok-inner.ensures) in
    subst P (sym c.from_vec.ensures) two
