use Rattle.p21_express_graph.proofs.Resolving.{well-formed}
use Rattle.p21_schema.proofs.schema.Schema.well_formed.Goals as goal

pub returns : goal.returns
returns c = well-formed c.args.self.now c.holds_together.ensures
