use Rattle.std.specs.Prelude.{◌≡◌, true, false}
use Rattle.p21_express_graph.specs.Meaning.{place}
use Rattle.p21_express.proofs.PlaceLemmas.{other-of}
use Rattle.p21_express.proofs.lookups.has_other_above.Goals as goal

pub returns-in-Some : goal.returns-in-Some
returns-in-Some c = other-of c.args.hierarchy.now c.requires.names.distinct c.args.entity.0 c.args.owner.0 c.args.name.now
    (place c.in-Some.place) (place c.args.first) c.is_same.result c.in-Some.ensures c.is_same.ensures

pub returns-in-None : goal.returns-in-None
returns-in-None c = (λ no. let t : false ≡ true = no in cc, λ (p, above, differ). absurd (c.in-None.ensures p above))
