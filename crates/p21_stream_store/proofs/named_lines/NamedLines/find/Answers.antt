use Rattle.p21_stream_store.proofs.InstanceLemmas.{among_names, found, place_within}
use Rattle.p21_stream_store.proofs.named_lines.NamedLines.find.Goals as goal

pub get-requires : goal.get-requires
get-requires c = place_within _ _ _ _ c.self.invariant.texts c.in-Some.ensures.some

pub returns-in-Some-clause-some : goal.returns-in-Some-clause-some
returns-in-Some-clause-some c = found _ _ _ c.self.view_is _ _ _ c.in-Some.ensures.some c.get.ensures

pub returns-in-None-clause-none : goal.returns-in-None-clause-none
returns-in-None-clause-none c e there = c.in-None.ensures.none e (among_names _ _ _ c.self.view_is c.self.invariant.texts c.args.name there)
