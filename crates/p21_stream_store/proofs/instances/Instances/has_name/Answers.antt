use Rattle.std.proofs.Common.{List, subst, sym, ◌∙◌}
use Rattle.std.specs.List.{Contains}
use Rattle.p21_stream_store.proofs.InstanceLemmas.{named-found, named-none}
use Rattle.p21_stream_store.specs.StoredInstance.{StoredInstance, instance_names}
use Rattle.p21_stream_store.proofs.instances.Instances.has_name.Goals as goal

pub returns-then-not-may_have : goal.returns-then-not-may_have
returns-then-not-may_have c = (
  λ there. cc,
  λ among. absurd (subst (λ (all : List StoredInstance). Contains (instance_names all) c.args.name → ⊥) c.self.view_is
      (c.may_have.ensures c.if-not-may_have.true) among),
)

pub returns : goal.returns
returns c = (
  λ there. named-found c.args.self.now c.args.name c.membership_of.result c.membership_of.ensures.some (sym c.is_some.ensures ∙ there),
  λ among. c.is_some.ensures ∙ named-none c.args.self.now c.args.name c.membership_of.result c.membership_of.ensures.none among,
)
