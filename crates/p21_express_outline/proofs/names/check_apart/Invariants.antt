use Rattle.std.proofs.Common.{map, take}
use Rattle.p21_express_outline.specs.Known.{AreOthers}
use Rattle.p21_express_outline.proofs.names.check_apart.Given as goal

-- none of those so far
abbrev pub invariant-loop-defined : goal.invariant-loop-defined
invariant-loop-defined l = AreOthers l.entities (map (λ x. x.name) (take l.defined-index l.types))
