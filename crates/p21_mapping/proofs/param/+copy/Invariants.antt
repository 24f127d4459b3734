use Rattle.std.proofs.Common.{◌≡◌, map, take}
use Rattle.p21_grammar_tree.specs.View.{view}
use Rattle.p21_mapping.proofs.param.+copy.Given as goal

-- the first parameters
abbrev pub invariant-copied_params-loop-i : goal.invariant-copied_params-loop-i
invariant-copied_params-loop-i l = map view l.all.items ≡ map view (take l.i l.params)
