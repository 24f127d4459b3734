use Rattle.std.proofs.Common.{◌≡◌, map, take}
use Rattle.p21_express_graph.specs.Meaning.{place}
use Rattle.p21_schema.proofs.place_positions.places_of.Given as goal

abbrev pub invariant-loop-other : goal.invariant-loop-other
invariant-loop-other l = map place l.places.items ≡ map (λ r. place r.place) (take l.other-index l.redeclared)
