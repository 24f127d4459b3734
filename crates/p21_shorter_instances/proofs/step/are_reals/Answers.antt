use Rattle.std.proofs.Common.{Bool, subst, sym}
use Rattle.p21_express_graph.specs.Meaning.{type_use}
use Rattle.p21_shorter_instances.proofs.Elements.{element-known}
use Rattle.p21_shorter_instances.specs.Elements.{IsAggregateOf}
use Rattle.p21_shorter_instances.proofs.step.are_reals.Goals as goal

pub base-requires : goal.base-requires
base-requires c = element-known c.args.schema.now (type_use c.args.of.now) c.in-Some.optional (type_use c.in-Some.element.now)
    c.in-Some.ensures
    c.requires

pub returns : goal.returns
returns c = λ are.
    let type = type_use c.args.of.now in
    let element = type_use c.in-Some.element.now in (
      sym c.if-are_compared.ensures,
      element,
      c.base.result,
      subst (λ (b : Bool). IsAggregateOf type b element) c.if-optional.false c.in-Some.ensures,
      c.base.ensures,
      c.is_real.ensures are,
    )
