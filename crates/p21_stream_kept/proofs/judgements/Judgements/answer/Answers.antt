use Rattle.std.proofs.Common.{ap, refl, subst}
use Rattle.std.specs.Prelude.{Contains}
use Rattle.p21_spec_basics.proofs.Members.{Each-member}
use Rattle.p21_mapping_values.specs.declared.need.Need.{Need}
use Rattle.p21_mapping_values.specs.TypedView.{need_view}
use Rattle.p21_stream_kept.proofs.EarlierLemmas.{at-below}
use Rattle.p21_stream_kept.proofs.Serving.{set-tells}
use Rattle.p21_stream_kept.proofs.Unserved.{none-of_name}
use Rattle.p21_stream_store.specs.StoredInstance as store
use Rattle.p21_stream_store.specs.StoredInstance.{instance_names}
use Rattle.p21_stream_kept.specs.KeptInstances.{instances_of}
use Rattle.p21_stream_kept.proofs.judgements.Judgements.answer.Goals as goal

pub returns-in_default-clause-answers : goal.returns-in_default-clause-answers
returns-in_default-clause-answers c =
    let target = ap (λ (n : Need). n.target) c.need.view_is in
    none-of_name c.args.schema.now c.args.stored.now.memberships (instances_of c.args.stored.now.instances) (need_view c.args.need.now)
    (subst (λ n. Contains (instance_names (instances_of c.args.stored.now.instances)) n → ⊥) target (c.in_default.ensures.none refl))

pub returns-then-judge-clause-answers : goal.returns-then-judge-clause-answers
returns-then-judge-clause-answers c =
    let instances = instances_of c.args.stored.now.instances in
    let x : store.StoredInstance = record {
      name = c.need.inside.0.0.0;
      membership = c.in-Some.membership;
      text =
          c.in-Some.ensures.some.0;
    } in
    let (own, at) = at-below c.args.stored.now.memberships c.in-Some.membership
    (Each-member _ instances x c.requires.stored c.in-Some.ensures.some.1) in
    (set-tells c.args.schema.now c.args.stored.now.memberships instances (need_view c.args.need.now) c.need.inside.0.0.0
    c.in-Some.membership c.in-Some.ensures.some.0 (ap (λ (n : Need). n.target) c.need.view_is) c.in-Some.ensures.some.1 own at
    c.judge.result (c.judge.ensures.serves own at)).0 c.if-judge.true

pub returns-else-judge-clause-answers : goal.returns-else-judge-clause-answers
returns-else-judge-clause-answers c =
    let instances = instances_of c.args.stored.now.instances in
    let x : store.StoredInstance = record {
      name = c.need.inside.0.0.0;
      membership = c.in-Some.membership;
      text =
          c.in-Some.ensures.some.0;
    } in
    let (own, at) = at-below c.args.stored.now.memberships c.in-Some.membership
    (Each-member _ instances x c.requires.stored c.in-Some.ensures.some.1) in
    (set-tells c.args.schema.now c.args.stored.now.memberships instances (need_view c.args.need.now) c.need.inside.0.0.0
    c.in-Some.membership c.in-Some.ensures.some.0 (ap (λ (n : Need). n.target) c.need.view_is) c.in-Some.ensures.some.1 own at
    c.judge.result (c.judge.ensures.serves own at)).1 c.if-judge.false
