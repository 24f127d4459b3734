use Rattle.std.proofs.Common.{map, take}
use Rattle.p21_express_graph.specs.Meaning.{place}
use Rattle.p21_schema.specs.Redeclarers.{AddsRedeclarer}
use Rattle.p21_schema.proofs.redeclarers.Redeclarers.add_all.Given as goal

abbrev pub invariant-loop-place : goal.invariant-loop-place
invariant-loop-place l = AddsRedeclarer l.entity.0 (map place (take l.place-index l.places)) l.fn.self l.self
