use Rattle.std.proofs.Common.{sym, ◌∙◌}
use Rattle.p21_express_graph.specs.Meaning.{place}
use Rattle.p21_schema.proofs.Places.{finds-option}
use Rattle.p21_schema.proofs.place_positions.PlacePositions.find.Goals as goal

pub returns : goal.returns
returns c places is = finds-option c.args.self.now.found places is (place c.args.place) c.copied.result
    (sym (c.copied.ensures ∙ c.get.ensures.value))
