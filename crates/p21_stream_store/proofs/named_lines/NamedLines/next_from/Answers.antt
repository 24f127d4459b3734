use Rattle.p21_stream_store.proofs.InstanceLemmas.{among_names, found, place_within}
use Rattle.p21_stream_store.proofs.named_lines.NamedLines.next_from.Goals as goal

pub membership-requires : goal.membership-requires
membership-requires c = place_within _ _ _ _ c.self.invariant.texts c.in-Some.ensures.found.2

pub returns-in-Some-clause-some : goal.returns-in-Some-clause-some
returns-in-Some-clause-some c = (c.membership.ensures.0, found _ _ _ c.self.view_is _ _ _ c.in-Some.ensures.found.2 c.membership.ensures.1)

pub returns-in-Some-clause-between : goal.returns-in-Some-clause-between
returns-in-Some-clause-between c other from below there =
    c.in-Some.ensures.between other from below (among_names _ _ _ c.self.view_is c.self.invariant.texts other there)

pub returns-in-Some-clause-fits : goal.returns-in-Some-clause-fits
returns-in-Some-clause-fits c other there = c.in-Some.ensures.fits other
    (among_names _ _ _ c.self.view_is c.self.invariant.texts other there)

pub returns-in-None-clause-none : goal.returns-in-None-clause-none
returns-in-None-clause-none c e other from there =
    c.in-None.ensures.none e other from (among_names _ _ _ c.self.view_is c.self.invariant.texts other there)

pub returns-in-None-clause-fits : goal.returns-in-None-clause-fits
returns-in-None-clause-fits c other there = c.in-None.ensures.fits other
    (among_names _ _ _ c.self.view_is c.self.invariant.texts other there)
