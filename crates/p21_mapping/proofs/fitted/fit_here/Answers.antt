use Rattle.p21_express_graph.specs.Meaning.{place, place_type}
use Rattle.p21_grammar_tree.specs.View.{view}
use Rattle.p21_mapping.proofs.Here.{here}
use Rattle.p21_mapping.proofs.fitted.fit_here.Goals as goal

pub returns : goal.returns
returns c = here c.args.set.now.schema.now c.args.set.now.entities (place c.args.place) (place_type c.in_ok-at.at) (view c.args.param)
    c.args.needs.now.items c.fit_place-found.new.needs.items c.fit_place-found.result c.in_ok-at.ensures c.fit_place-found.ensures
