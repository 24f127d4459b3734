use Rattle.std.specs.Prelude.{◌≡◌, Some, None, true, false}
use Rattle.p21_express_graph.specs.Meaning.{place}
use Rattle.p21_schema.proofs.schema.Schema.derives.Goals as goal
use Rattle.p21_schema.proofs.Owners.{derives-option}

pub returns-in-Some : goal.returns-in-Some
returns-in-Some c =
    let derives = derives-option c.args.self.now c.args.entity.0 (place c.args.place) c.places_redeclared-places.result.now
    c.requires.entity c.places_redeclared-places.ensures (Some c.in-Some._at) c.in-Some.ensures in
    (λ yes. (derives, c.counts.ensures.0 yes), λ both. c.counts.ensures.1 both.1)

pub returns-in-None : goal.returns-in-None
returns-in-None c =
    let none = derives-option c.args.self.now c.args.entity.0 (place c.args.place) c.places_redeclared-places.result.now c.requires.entity
    c.places_redeclared-places.ensures None c.in-None.ensures in
    (λ no. let t : false ≡ true = no in cc, λ both. absurd (none both.0))
