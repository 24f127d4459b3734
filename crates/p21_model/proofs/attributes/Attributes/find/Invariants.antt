use Rattle.std.proofs.Common.{List}
use Rattle.p21_model.proofs.Finding.{IsFurther}
use Rattle.p21_model.specs.Left.{TellsRows, left_size}
use Rattle.p21_model.specs.Rows.{Row}
use Rattle.p21_model.proofs.attributes.Attributes.find.Given as goal

-- no parameter before those that are left stands at the place
abbrev pub invariant-loop-attribute : goal.invariant-loop-attribute
invariant-loop-attribute l = (rows : List Row) → TellsRows l.fn.self rows → IsFurther l.self l.place rows

abbrev pub decreases-loop-attribute : goal.decreases-loop-attribute
decreases-loop-attribute l = left_size l.self
