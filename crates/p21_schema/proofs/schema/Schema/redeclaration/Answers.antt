use Rattle.p21_express_graph.specs.Meaning.{place}
use Rattle.p21_schema.proofs.schema.Schema.redeclaration.Goals as goal
use Rattle.p21_schema.proofs.Owners.{redeclares-option}

pub returns : goal.returns
returns c = redeclares-option c.args.self.now c.args.entity.0 (place c.args.place) c.places_redeclared-places.result.now c.requires
    c.places_redeclared-places.ensures c.find.result c.find.ensures
