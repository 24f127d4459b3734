use Rattle.std.proofs.Common.{subst}
use Rattle.p21_stream_store.proofs.SetNumbers.{sets-once}
use Rattle.p21_stream_store.specs.Numbering.{AreOnce}
use Rattle.p21_stream_store.proofs.entity_sets.EntitySets.are_once.Goals as goal

pub returns : goal.returns
returns c = subst AreOnce c.self.view_is (sets-once c.self.inside.all.items c.self.inside.numbers c.self.invariant.0)
