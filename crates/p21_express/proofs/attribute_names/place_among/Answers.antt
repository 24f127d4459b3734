use Rattle.p21_express.proofs.PlaceLemmas.{own-found, own-none}
use Rattle.p21_express.proofs.attribute_names.place_among.Goals as goal

pub returns-in-Some : goal.returns-in-Some
returns-in-Some c = own-found c.args.hierarchy.now c.args.entity.0 c.args.names.now c.requires.names c.args.name.now c.in-Some.at
    c.in-Some.ensures

pub returns-in-None : goal.returns-in-None
returns-in-None c = own-none c.args.hierarchy.now c.args.entity.0 c.args.names.now c.requires.names c.args.name.now c.in-None.ensures
