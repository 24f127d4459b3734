use Rattle.std.proofs.Common.{◌≡◌, length, map, take}
use Rattle.std.specs.List.{AllZip, enumerate_from}
use Rattle.p21_express_graph.specs.Redeclaring.{redeclaring}
use Rattle.p21_express_outline.specs.Known.{names_of}
use Rattle.p21_express_outline.specs.Redeclarations.{RedeclarationsAre}
use Rattle.p21_express_syntax.specs.Views.{entity_view}
use Rattle.p21_express.proofs.redeclaring.all_redeclarations.Given as goal

-- those so far are found
abbrev pub invariant-loop-own : goal.invariant-loop-own
invariant-loop-own l = (length l.found.items ≡ l.own-index)
    × AllZip (λ own found. RedeclarationsAre l.hierarchy (names_of l.known) (map entity_view l.declared) own.0 own.1 found)
    (take l.own-index (enumerate_from 0 (map entity_view l.declared))) (map redeclaring l.found.items)
