use Rattle.std.proofs.Common.{◌≡◌, map, ◌++◌}
use Rattle.p21_express_graph.specs.Meaning.{place}
use Rattle.p21_express_graph.specs.Lookups.{places_from}
use Rattle.p21_schema.proofs.schema.Schema.push_own_places.Given as goal

abbrev pub invariant-loop-index : goal.invariant-loop-index
invariant-loop-index l = map place l.found.items ≡ map place l.fn.found.items ++ places_from l.entity.0 0 l.index
