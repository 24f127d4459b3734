use Rattle.std.proofs.Common.{refl}
use Rattle.p21_express_graph.specs.Meaning.{place, place_type}
use Rattle.p21_spec_basics.proofs.Members.{rest_is}
use Rattle.p21_express_graph.specs.Orders.{numbers}
use Rattle.p21_shorter_instances.proofs.Joining.{at-behind, known-at}
use Rattle.p21_shorter_instances.proofs.Values.{needs-same, rest-taken}
use Rattle.p21_shorter_instances.proofs.own_parameters.append_parameter_at.Goals as goal
use Rattle.p21_values.proofs.Continuing.{continues-same}

pub returns-then-is_dear-clause-draft : goal.returns-then-is_dear-clause-draft
returns-then-is_dear-clause-draft c = continues-same _ _ refl

pub returns-then-is_dear-clause-needs : goal.returns-then-is_dear-clause-needs
returns-then-is_dear-clause-needs c = needs-same _ _ refl

pub append_placed-requires : goal.append_placed-requires
append_placed-requires c = known-at c.args.schema.now c.holds_together.ensures (numbers c.args.set.now) (place c.args.place)
    (place_type c.type_at-at.result) c.type_at-at.ensures

pub returns-clause-some : goal.returns-clause-some
returns-clause-some c =
    at-behind c.args.schema.now (numbers c.args.set.now) (place c.args.place) (place_type c.type_at-at.result) c.args.bytes.now
    c.behind_separators-front.result.now _ _ _ c.type_at-at.ensures c.behind_separators-front.ensures
    (rest-taken c.args.schema.now _ 64 c.behind_separators-front.result.now _ c.in_ok-count.count _ _
    (rest_is c.behind_separators-front.result.now c.in_ok-count.count) c.in_ok-count.ensures.some.1)
