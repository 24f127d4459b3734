use Rattle.p21_express_graph.proofs.FrontsAbove.{own-above, shared-above}
use Rattle.p21_express_graph.proofs.above.front_above.Goals as goal

pub returns-in-None : goal.returns-in-None
returns-in-None c = own-above c.args.orders.now c.args.entity.0 c.prefix_of-own.result c.requires.prefixes c.prefix_of-own.ensures c.requires.itself

pub returns-in-Some : goal.returns-in-Some
returns-in-Some c = shared-above c.args.orders.now c.args.entity.0 c.prefix_of-own.result c.requires.prefixes c.prefix_of-own.ensures c.in-Some.run' c.in-Some.ensures.ends c.in-Some.ensures.there
