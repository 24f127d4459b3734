use Rattle.std.proofs.Common.{map, take}
use Rattle.p21_express_graph.specs.Meaning.{place}
use Rattle.p21_schema.specs.PlacePositions.{FindsPlaces}
use Rattle.p21_schema.proofs.place_positions.PlacePositions.of.Given as goal

abbrev pub invariant-loop-at : goal.invariant-loop-at
invariant-loop-at l = FindsPlaces l.found (map place (take l.at l.places))
