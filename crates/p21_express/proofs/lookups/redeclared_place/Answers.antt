use Rattle.p21_express.proofs.PlaceLemmas.{is-target_of}
use Rattle.p21_express.proofs.lookups.redeclared_place.Goals as goal

pub returns-in-None : goal.returns-in-None
returns-in-None c = (λ place is. c.in-None.ensures is.0 is.1, λ sup proper none. c.in-None.ensures sup proper)

pub returns-in-Some : goal.returns-in-Some
returns-in-Some c = is-target_of c.args.hierarchy.now c.well_formed-2.ensures.entities_distinct c.args.entity.0 c.in-Some.sup.0
    c.args.supertype.now c.args.name.now c.in-Some.ensures c.place_in.result c.place_in.ensures
