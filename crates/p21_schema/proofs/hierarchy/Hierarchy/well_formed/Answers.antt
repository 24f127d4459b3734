use Rattle.p21_express_graph.proofs.Resolving.{well-formed}
use Rattle.p21_schema.proofs.hierarchy.Hierarchy.well_formed.Goals as goal

pub returns : goal.returns
returns c = well-formed c.args.self.now c.holds_together.ensures
