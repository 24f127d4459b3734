use Rattle.std.proofs.Common.{map, take}
use Rattle.std.specs.List.{AllZip}
use Rattle.p21_express_outline.specs.Known.{names_of}
use Rattle.p21_express_outline.specs.Outline.{IsNamed}
use Rattle.p21_express_outline.proofs.lists.entities_named.Given as goal

-- those so far are found
abbrev pub invariant-loop-name : goal.invariant-loop-name
invariant-loop-name l = AllZip (λ name e. IsNamed (names_of l.known).entities e name) (take l.name-index l.names)
    (map (λ e. e.0) l.found.items)
