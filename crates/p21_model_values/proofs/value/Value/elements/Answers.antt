use Rattle.p21_model_values.proofs.Handing.{list-left}
use Rattle.p21_model_values.proofs.value.Value.elements.Goals as goal

pub returns-in-Some : goal.returns-in-Some
returns-in-Some c ps text = list-left ps _ c.in-Some.rest.now c.args.self.text.now text c.in-Some.ensures.cases.0
