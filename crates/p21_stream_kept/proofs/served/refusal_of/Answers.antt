use Rattle.std.proofs.Common.{◌≡◌, true, ap, refl, rules, subst, Some}
use Rattle.std.specs.Prelude.{Contains}
use Rattle.p21_mapping_values.specs.declared.need.Need.{Need}
use Rattle.p21_mapping_values.specs.TypedView.{need_view}
use Rattle.p21_stream_kept.proofs.ByMembership.{stored-found}
use Rattle.p21_stream_kept.proofs.Unserved.{none-of_name}
use Rattle.p21_stream_kept.specs.Inside.{stored_with}
use Rattle.p21_stream_store.specs.Memberships.{membership_of}
use Rattle.p21_stream_store.specs.StoredInstance as store
use Rattle.p21_stream_store.specs.StoredInstance.{instance_names}
use Rattle.p21_stream_kept.specs.KeptInstances.{instances_of}
use Rattle.p21_stream_kept.proofs.served.refusal_of.Goals as goal

pub returns-in_default : goal.returns-in_default
returns-in_default c =
    let target = ap (λ (n : Need). n.target) c.need.view_is in
    none-of_name c.args.schema.now c.args.stored.now.memberships (instances_of c.args.stored.now.instances) (need_view c.args.need.now)
    (subst (λ n. Contains (instance_names (instances_of c.args.stored.now.instances)) n → ⊥) target (c.in_default.ensures.none refl))

pub returns-then-serves : goal.returns-then-serves
returns-then-serves c =
    let membership = membership_of c.get.result.0 c.get.result.1.now in
    let x : store.StoredInstance = record {
      name = c.need.inside.0.0.0;
      membership = c.in-Some.membership;
      text =
          c.in-Some.ensures.some.0;
    } in (
      stored_with (Some membership) x,
      stored-found c.args.stored.now.memberships (instances_of c.args.stored.now.instances) x membership
          c.in-Some.ensures.some.1 c.get.ensures,
      ap (λ (n : Need). n.target) c.need.view_is,
      c.serves.ensures.0 (search rules),
    )

pub returns-else-serves : goal.returns-else-serves
returns-else-serves c =
    let membership = membership_of c.get.result.0 c.get.result.1.now in
    let x : store.StoredInstance = record {
      name = c.need.inside.0.0.0;
      membership = c.in-Some.membership;
      text =
          c.in-Some.ensures.some.0;
    } in (
      stored_with (Some membership) x,
      stored-found c.args.stored.now.memberships (instances_of c.args.stored.now.instances) x membership c.in-Some.ensures.some.1
          c.get.ensures,
      ap (λ (n : Need). n.target) c.need.view_is,
      λ serves.
          let passes : c.serves.result ≡ true = c.serves.ensures.1 serves in
          let fails = c.if-serves.false in
          cc,
    )
