use Rattle.std.proofs.Common.{map, take}
use Rattle.p21_express_graph.specs.SchemaContents.{entity}
use Rattle.p21_schema.specs.Redeclarers.{AreRedeclarersOf}
use Rattle.p21_schema.proofs.redeclarers.all_redeclarers.Given as goal

abbrev pub invariant-loop-number : goal.invariant-loop-number
invariant-loop-number l = AreRedeclarersOf (map entity (take l.number l.entities)) l.redeclarers
