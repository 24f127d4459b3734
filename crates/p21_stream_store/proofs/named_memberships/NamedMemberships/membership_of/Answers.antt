use Rattle.std.proofs.Common.{[], sym, ◌∙◌}
use Rattle.p21_stream_store.proofs.NamedMembershipLemmas.{found-noted, found-nowhere, some-other}
use Rattle.p21_stream_store.proofs.named_memberships.NamedMemberships.membership_of.Goals as goal

pub returns-in-Some-clause-some : goal.returns-in-Some-clause-some
returns-in-Some-clause-some c = (
  [],
  found-noted c.self.inside.noted c.self.inside.others c.args.self.now c.self.view_is c.args.name
      c.in-Some.membership (sym c.noted_membership.ensures ∙ c.in-Some.is),
)

pub returns-clause-some : goal.returns-clause-some
returns-clause-some c = some-other c.self.inside.noted c.self.inside.others c.args.self.now c.self.view_is c.args.name
    c.membership_of.result c.membership_of.ensures.some

pub returns-clause-none : goal.returns-clause-none
returns-clause-none c e = found-nowhere c.self.inside.noted c.self.inside.others c.args.self.now c.self.view_is c.args.name
    (sym c.noted_membership.ensures ∙ c.in_default.is) (c.membership_of.ensures.none e)
