use Rattle.std.specs.Prelude.{◌≡◌, true, false}
use Rattle.p21_express_graph.specs.Meaning.{place}
use Rattle.p21_schema.proofs.schema.Schema.redeclares.Goals as goal
use Rattle.p21_schema.proofs.Owners.{redeclarer-at}

pub returns-in-Some : goal.returns-in-Some
returns-in-Some c =
    let (r, stands, is) = c.in-Some.ensures in
    let redeclares = redeclarer-at c.args.self.now c.args.entity.0 (place c.args.place) c.in-Some._at r stands is in
    (λ yes. (redeclares, c.counts.ensures.0 yes), λ both. c.counts.ensures.1 both.1)

pub returns-in-None : goal.returns-in-None
returns-in-None c = (λ no. let t : false ≡ true = no in cc, λ both. absurd (c.in-None.ensures both.0))
