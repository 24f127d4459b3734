use Rattle.std.specs.Prelude.{refl, vec_len}
use Rattle.p21_spec_schema.specs.Schema.{entity_member}
use Rattle.p21_express_graph.proofs.Offering.{offered-some}
use Rattle.p21_schema.proofs.schema.Schema.offers_entity.Goals as goal

pub returns : goal.returns
returns c = offered-some (λ v. v.items) c.self.inside.hierarchy c.args.self.now entity_member c.self.inside.tables.offered.entities.items
    c.args.of.0 c.index.result.now c.index.result.now.items c.self.view_is c.self.invariant.entities_offered c.requires c.index.ensures refl
    c.is_empty.result (vec_len c.index.result.now) c.is_empty.ensures c.index.result.now.ok.0
