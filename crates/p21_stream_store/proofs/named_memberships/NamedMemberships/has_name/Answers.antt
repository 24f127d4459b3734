use Rattle.std.proofs.Common.{ℕ, List, subst, sym, ◌∙◌}
use Rattle.p21_stream_store.proofs.InstanceLemmas.{named-found, named-none}
use Rattle.p21_stream_store.specs.NamedMemberships.{AreSeen}
use Rattle.p21_stream_store.specs.Seen.{MayHaveCome}
use Rattle.p21_stream_store.specs.StoredInstance.{StoredInstance}
use Rattle.p21_stream_store.proofs.named_memberships.NamedMemberships.has_name.Goals as goal

pub returns-then-not-may_have_come : goal.returns-then-not-may_have_come
returns-then-not-may_have_come c =
    let seen = subst (λ (all : List StoredInstance). AreSeen c.self.inside.seen.items all) c.self.view_is c.self.invariant.1 in (
      λ there. cc,
      λ among. absurd (subst (λ (words : List ℕ). MayHaveCome words c.args.name → ⊥) c.deref.ensures.value
          (c.may_have_come.ensures c.if-not-may_have_come.true) (seen c.args.name among)),
    )

pub returns : goal.returns
returns c = (
  λ there. named-found c.args.self.now c.args.name c.membership_of.result c.membership_of.ensures.some (sym c.is_some.ensures ∙ there),
  λ among. c.is_some.ensures ∙ named-none c.args.self.now c.args.name c.membership_of.result c.membership_of.ensures.none among,
)
