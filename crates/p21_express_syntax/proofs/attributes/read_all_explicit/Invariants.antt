use Rattle.std.proofs.Common.{◌≡◌, map, length}
use Rattle.p21_express_syntax.specs.Declaring.{explicit_of}
use Rattle.p21_express_syntax.specs.Many.{with_items, many_of}
use Rattle.p21_express_syntax.specs.Views.{attributes_view}
use Rattle.p21_express_syntax.proofs.attributes.read_all_explicit.Given as goal

-- what was read stands in front of what is read of the rest
abbrev pub invariant-loop-attributes : goal.invariant-loop-attributes
invariant-loop-attributes l = many_of explicit_of l.fn.lexemes ≡ with_items (map attributes_view l.explicit.items) (many_of explicit_of l.lexemes)

abbrev pub decreases-loop-attributes : goal.decreases-loop-attributes
decreases-loop-attributes l = length l.lexemes
