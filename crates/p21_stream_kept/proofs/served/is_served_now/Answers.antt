use Rattle.std.proofs.Common.{Some, ap, inl, inr, refl, subst}
use Rattle.std.specs.Prelude.{Contains}
use Rattle.p21_mapping_values.specs.declared.need.Need.{Need}
use Rattle.p21_mapping_values.specs.TypedView.{need_view}
use Rattle.p21_stream_kept.proofs.ByMembership.{stored-found}
use Rattle.p21_stream_kept.proofs.Serving.{set-tells}
use Rattle.p21_stream_kept.proofs.Unserved.{none-of_name}
use Rattle.p21_stream_kept.specs.Inside.{stored_with}
use Rattle.p21_stream_store.specs.Memberships.{membership_of}
use Rattle.p21_stream_store.specs.StoredInstance as store
use Rattle.p21_stream_store.specs.StoredInstance.{instance_names}
use Rattle.p21_stream_kept.specs.KeptInstances.{instances_of}
use Rattle.p21_stream_kept.proofs.served.is_served_now.Goals as goal

pub returns-in_default-clause-unserved : goal.returns-in_default-clause-unserved
returns-in_default-clause-unserved c = λ none.
    let target = ap (λ (n : Need). n.target) c.need.view_is in
    inl
    (none-of_name c.args.schema.now c.args.stored.now.memberships (instances_of c.args.stored.now.instances) (need_view c.args.need.now)
    (subst (λ n. Contains (instance_names (instances_of c.args.stored.now.instances)) n → ⊥) target (c.in_default.ensures.none refl)))

pub returns-then-serve_again-clause-served : goal.returns-then-serve_again-clause-served
returns-then-serve_again-clause-served c = λ yes.
    let membership = membership_of c.get.result.0 c.get.result.1.now in
    let x : store.StoredInstance = record {
      name = c.need.inside.0.0.0;
      membership = c.in-Some.membership;
      text =
          c.in-Some.ensures.some.0;
    } in (
      stored_with (Some membership) x,
      stored-found c.args.stored.now.memberships (instances_of c.args.stored.now.instances) x membership
          c.in-Some.ensures.some.1 c.get.ensures,
      ap (λ (n : Need). n.target) c.need.view_is,
      c.serve_again.ensures c.if-serve_again.true,
    )

pub returns-then-entities-gt-MOST_LOOKED_THROUGH-clause-served : goal.returns-then-entities-gt-MOST_LOOKED_THROUGH-clause-served
returns-then-entities-gt-MOST_LOOKED_THROUGH-clause-served c =
    let own = membership_of c.get.result.0 c.get.result.1.now in
    (set-tells c.args.schema.now c.args.stored.now.memberships (instances_of c.args.stored.now.instances) (need_view c.args.need.now)
    c.need.inside.0.0.0 c.in-Some.membership c.in-Some.ensures.some.0 (ap (λ (n : Need). n.target) c.need.view_is)
    c.in-Some.ensures.some.1
    own c.get.ensures c.large_set_serves.result (c.large_set_serves.ensures.serves own c.get.ensures)).0

pub returns-then-entities-gt-MOST_LOOKED_THROUGH-clause-unserved : goal.returns-then-entities-gt-MOST_LOOKED_THROUGH-clause-unserved
returns-then-entities-gt-MOST_LOOKED_THROUGH-clause-unserved c = λ no.
    let own = membership_of c.get.result.0 c.get.result.1.now in
    inr
    ((set-tells c.args.schema.now c.args.stored.now.memberships (instances_of c.args.stored.now.instances) (need_view c.args.need.now)
    c.need.inside.0.0.0 c.in-Some.membership c.in-Some.ensures.some.0 (ap (λ (n : Need). n.target) c.need.view_is)
    c.in-Some.ensures.some.1
    own c.get.ensures c.large_set_serves.result (c.large_set_serves.ensures.serves own c.get.ensures)).1 no)

pub returns-clause-served : goal.returns-clause-served
returns-clause-served c =
    (set-tells c.args.schema.now c.args.stored.now.memberships (instances_of c.args.stored.now.instances) (need_view c.args.need.now)
    c.need.inside.0.0.0 c.in-Some.membership c.in-Some.ensures.some.0 (ap (λ (n : Need). n.target) c.need.view_is)
    c.in-Some.ensures.some.1
    (membership_of c.get.result.0 c.get.result.1.now) c.get.ensures c.serves.result c.serves.ensures).0

pub returns-clause-unserved : goal.returns-clause-unserved
returns-clause-unserved c = λ no.
    inr
    ((set-tells c.args.schema.now c.args.stored.now.memberships (instances_of c.args.stored.now.instances) (need_view c.args.need.now)
    c.need.inside.0.0.0 c.in-Some.membership c.in-Some.ensures.some.0 (ap (λ (n : Need). n.target) c.need.view_is)
    c.in-Some.ensures.some.1
    (membership_of c.get.result.0 c.get.result.1.now) c.get.ensures c.serves.result c.serves.ensures).1 no)
