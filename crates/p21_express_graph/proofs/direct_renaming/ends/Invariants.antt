use Rattle.std.proofs.Common.{take}
use Rattle.p21_express_graph.specs.SchemaContents.{schema_of}
use Rattle.p21_express_graph.proofs.Ends.{AreSoFar}
use Rattle.p21_express_graph.proofs.direct_renaming.ends.Given as goal

-- the last ones of the types so far are known
abbrev pub invariant-loop-number : goal.invariant-loop-number
invariant-loop-number l = AreSoFar (schema_of l.parts) l.ends.items (take l.number-index l.listed)
