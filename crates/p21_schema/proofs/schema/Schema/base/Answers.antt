use Rattle.std.specs.Prelude.{refl}
use Rattle.p21_express_graph.specs.Meaning.{type_use}
use Rattle.p21_express_graph.specs.DirectRenaming.{at_itself}
use Rattle.p21_schema.proofs.schema.Schema.base.Goals as goal

pub returns-in-None : goal.returns-in-None
returns-in-None c = (type_use c.args.of.now, at_itself (type_use c.args.of.now), (refl, c.in-None.ensures))
