use Rattle.std.proofs.Common.{length}
use Rattle.p21_express_syntax.specs.Declaring.{declaration_of}
use Rattle.p21_express_syntax.specs.Many.{many_of}
use Rattle.p21_express_syntax.specs.Views.{schema_view}
use Rattle.p21_express_syntax.proofs.Counting.{AllLead}
use Rattle.p21_express_syntax.proofs.schema.read_all.Given as goal

-- what was read stands in front of what is read of the rest
abbrev pub invariant-loop-alloc : goal.invariant-loop-alloc
invariant-loop-alloc l = AllLead (many_of declaration_of l.fn.lexemes) l.fn.name l.lexemes (schema_view l.declarations)

abbrev pub decreases-loop-alloc : goal.decreases-loop-alloc
decreases-loop-alloc l = length l.lexemes
