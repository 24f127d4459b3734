use Rattle.p21_express_graph.proofs.Resolving.{own-entities}
use Rattle.p21_express_graph.proofs.RisingNames.{own-rising}
use Rattle.p21_schema.proofs.schema.Schema.find_rising.Goals as goal

pub rising-requires : goal.rising-requires
rising-requires c = own-entities c.args.self.now c.holds_together.ensures c.args.entity.0 c.requires _ c.order_of.ensures

pub returns : goal.returns
returns c = own-rising c.args.self.now c.args.entity.0 _ c.rising.result c.order_of.ensures c.rising.ensures.same c.rising.ensures.rising
