use Rattle.std.proofs.Common.{refl}
use Rattle.p21_express_graph.specs.Orders.{numbers}
use Rattle.p21_express_graph.proofs.Lookups.{rising-known}
use Rattle.p21_shorter_instances.proofs.Leaving.{ok-to}
use Rattle.p21_shorter_instances.proofs.Joining.{numbered-taken, usual-at}
use Rattle.p21_shorter_instances.proofs.Values.{needs-same}
use Rattle.p21_shorter_instances.proofs.external.append_by_set.Goals as goal
use Rattle.p21_values.proofs.Continuing.{continues-same}

pub append_record-requires : goal.append_record-requires
append_record-requires c =
    let usual = usual-at c.args.schema.now c.args.sets.now c.args.at (numbers c.in-Some.set.now) c.requires c.in-Some.ensures in
    rising-known c.args.schema.now (numbers c.in-Some.set.now) usual.rising

pub returns-clause-some : goal.returns-clause-some
returns-clause-some c =
    let usual = usual-at c.args.schema.now c.args.sets.now c.args.at (numbers c.in-Some.set.now) c.requires c.in-Some.ensures in
    ok-to _ (λ rest. numbered-taken c.args.schema.now c.args.sets.now c.args.at (numbers c.in-Some.set.now) c.args.bytes.now rest.now _ _
    c.in-Some.ensures usual) c.append_record.ensures.some

pub returns-in_default-clause-draft : goal.returns-in_default-clause-draft
returns-in_default-clause-draft c = continues-same _ _ refl

pub returns-in_default-clause-needs : goal.returns-in_default-clause-needs
returns-in_default-clause-needs c = needs-same _ _ refl
