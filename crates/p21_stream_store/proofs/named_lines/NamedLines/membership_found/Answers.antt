use Rattle.p21_stream_store.proofs.InstanceLemmas.{among_names, found, place_within}
use Rattle.p21_stream_store.proofs.named_lines.NamedLines.membership_found.Goals as goal

pub membership-requires : goal.membership-requires
membership-requires c = place_within _ _ _ _ c.self.invariant.texts c.in-Some.ensures.some

pub returns-in-Some-clause-some : goal.returns-in-Some-clause-some
returns-in-Some-clause-some c = (c.membership.ensures.0, found _ _ _ c.self.view_is _ _ _ c.in-Some.ensures.some c.membership.ensures.1)

pub returns-in-None-clause-none : goal.returns-in-None-clause-none
returns-in-None-clause-none c e there = c.in-None.ensures.none e (among_names _ _ _ c.self.view_is c.self.invariant.texts c.args.name there)
