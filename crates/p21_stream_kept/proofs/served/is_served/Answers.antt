use Rattle.std.proofs.Common.{Some, ap}
use Rattle.p21_mapping_values.specs.declared.need.Need.{Need}
use Rattle.p21_stream_kept.proofs.ByMembership.{stored-found}
use Rattle.p21_stream_kept.specs.Inside.{stored_with}
use Rattle.p21_stream_store.specs.Memberships.{membership_of}
use Rattle.p21_stream_store.specs.StoredInstance as store
use Rattle.p21_stream_kept.specs.KeptInstances.{instances_of}
use Rattle.p21_stream_kept.proofs.served.is_served.Goals as goal

pub returns : goal.returns
returns c = λ serves.
    let membership = membership_of c.get.result.0 c.get.result.1.now in
    let x : store.StoredInstance = record {
      name = c.need.inside.0.0.0;
      membership = c.in-Some.membership;
      text =
          c.in-Some.ensures.some.0;
    } in (
      stored_with (Some membership) x,
      stored-found c.args.stored.now.memberships (instances_of c.args.stored.now.instances) x membership
          c.in-Some.ensures.some.1 c.get.ensures,
      ap (λ (n : Need). n.target) c.need.view_is,
      c.serve.ensures.served serves,
    )
