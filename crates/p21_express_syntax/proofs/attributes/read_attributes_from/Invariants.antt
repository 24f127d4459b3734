use Rattle.std.proofs.Common.{◌≡◌, length}
use Rattle.p21_express_syntax.specs.Declaring.{comma_attribute_of, attributes_from}
use Rattle.p21_express_syntax.specs.Many.{with_items, many_of}
use Rattle.p21_express_syntax.proofs.attributes.read_attributes_from.Given as goal

-- what was read stands in front of what is read of the rest
abbrev pub invariant-loop-attribute : goal.invariant-loop-attribute
invariant-loop-attribute l = attributes_from l.fn.first l.fn.lexemes ≡ with_items l.attributes.items (many_of comma_attribute_of l.lexemes)

abbrev pub decreases-loop-attribute : goal.decreases-loop-attribute
decreases-loop-attribute l = length l.lexemes
