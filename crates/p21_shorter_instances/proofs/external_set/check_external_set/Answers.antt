use Rattle.std.proofs.Common.{ap, sym, subst, ◌∙◌}
use Rattle.std.proofs.lemmas.Bool.{MatchBool-at_false}
use Rattle.p21_express_graph.specs.Orders.{numbers}
use Rattle.p21_spec_schema.specs.Schema.{AreRisingByName}
use Rattle.p21_shorter_instances.proofs.external_set.check_external_set.Goals as goal

pub returns : goal.returns
returns c = λ yes. record {
  distinct = c.in_ok-check_members.ensures.0;
  closed = c.in_ok-check_members.ensures.1;
  rising = subst (AreRisingByName c.args.schema.now) (ap numbers (sym c.deref.ensures.value) ∙ c.are_same.ensures c.if-not-are_same.false)
      c.in_ok-rising.ensures.rising;
  several_leaves = c.in_ok-several.ensures c.if-not-several.false;
  no_abstract_leaf = MatchBool-at_false _ _ c.if-found.false c.in_ok-found.ensures;
  passes = c.in_ok-check_set.ensures;
}
