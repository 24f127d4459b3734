use Rattle.p21_express_syntax.specs.Declaring.{passed_behind}
use Rattle.p21_express_syntax.proofs.schema.pass_declaration.Goals as goal

pub returns-in-Function : goal.returns-in-Function
unfolding passed_behind
returns-in-Function c = rw c.in-Function.is c.pass_to.ensures

pub returns-in-Procedure : goal.returns-in-Procedure
unfolding passed_behind
returns-in-Procedure c = rw c.in-Procedure.is c.pass_to-in-Procedure.ensures
