use Rattle.std.proofs.Common.{◌≡◌, length}
use Rattle.p21_express_syntax.specs.Declaring.{comma_name_of, names_from}
use Rattle.p21_express_syntax.specs.Many.{with_items, many_of}
use Rattle.p21_express_syntax.proofs.names.read_names_from.Given as goal

-- what was read stands in front of what is read of the rest
abbrev pub invariant-loop-name : goal.invariant-loop-name
invariant-loop-name l = names_from l.fn.first l.fn.lexemes ≡ with_items l.names.items (many_of comma_name_of l.lexemes)

abbrev pub decreases-loop-name : goal.decreases-loop-name
decreases-loop-name l = length l.lexemes
