use Rattle.p21_express_graph.specs.Meaning.{type_use}
use Rattle.p21_mapping.proofs.Chains.{base_in}
use Rattle.p21_mapping.proofs.place.base_of.Goals as goal

pub returns-clause-known : goal.returns-clause-known
returns-clause-known c = base_in c.args.schema.now (type_use c.args.of.now) _ c.holds_together.ensures c.base.ensures c.requires
