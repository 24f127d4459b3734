use Rattle.std.specs.Prelude.{map}
use Rattle.std.proofs.Common.{ap, ◌∙◌}
use Rattle.std.proofs.lemmas.List.{take_all}
use Rattle.p21_express_graph.specs.Meaning.{place}
use Rattle.p21_express_graph.specs.SchemaContents.{redeclared}
use Rattle.p21_express_graph.proofs.Gatherings.{map-map}
use Rattle.p21_schema.proofs.Owners.{place-next}
use Rattle.p21_schema.proofs.place_positions.places_of.Goals as goal

pub loop-other-preserved : goal.loop-other-preserved
loop-other-preserved c =
    place-next place (λ r. place r.place) c.loop-other.places.items c.push.new.self.items c.other-item.result.place c.args.redeclared.now
    c.loop-other.other-index c.other-item.result c.loop-other-test.true c.in_ok-push.ensures.items
    (ap (λ r. place r.place) c.other-item.is) c.loop-other.invariant

pub returns : goal.returns
returns c = c.loop-other.invariant ∙ ap (map (λ r. place r.place))
    (take_all c.loop-other.other-index c.args.redeclared.now c.loop-other-test.false)
    ∙ map-map (λ r. r.place) redeclared c.args.redeclared.now
