use Rattle.p21_express_graph.proofs.Gatherings.{numbered-at}
use Rattle.p21_express_graph.proofs.sharing.with_largest_front.Goals as goal

pub front_size-requires : goal.front_size-requires
front_size-requires c = c.requires.there _ (numbered-at (λ e. e.0) c.args.entities.now c.loop-at.at record { 0 = 0 } c.loop-at-test.true)

pub front_size-requires-in-loop-at : goal.front_size-requires-in-loop-at
front_size-requires-in-loop-at c = c.requires.there _ (numbered-at (λ e. e.0) c.args.entities.now c.loop-at.largest record { 0 = 0 } c.loop-at.invariant)
