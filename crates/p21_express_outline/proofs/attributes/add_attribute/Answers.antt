use Rattle.std.specs.Arc.{arc_value}
use Rattle.p21_express_graph.specs.Meaning.{type_use}
use Rattle.p21_express_outline.proofs.Adding.{own_with-one}
use Rattle.p21_express_outline.proofs.attributes.add_attribute.Goals as goal

pub returns-in_ok-push-in-Own : goal.returns-in_ok-push-in-Own
returns-in_ok-push-in-Own c =
    own_with-one c.args.optional (type_use (arc_value c.args.type_use.now)) c.args.out.now.items c.push.new.self.items
    c.in_ok-own_attribute-in-Own.field-0 c.args.name.now c.in-Own.name c.in_ok-push-in-Own.ensures.items
    c.in_ok-own_attribute-in-Own.ensures c.in-Own.is
