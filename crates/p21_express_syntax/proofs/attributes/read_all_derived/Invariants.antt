use Rattle.std.proofs.Common.{◌≡◌, length}
use Rattle.p21_express_syntax.specs.Declaring.{derived_of}
use Rattle.p21_express_syntax.specs.Many.{with_items, many_of}
use Rattle.p21_express_syntax.proofs.attributes.read_all_derived.Given as goal

-- what was read stands in front of what is read of the rest
abbrev pub invariant-loop-attribute : goal.invariant-loop-attribute
invariant-loop-attribute l = many_of derived_of l.fn.lexemes ≡ with_items l.derived.items (many_of derived_of l.lexemes)

abbrev pub decreases-loop-attribute : goal.decreases-loop-attribute
decreases-loop-attribute l = length l.lexemes
