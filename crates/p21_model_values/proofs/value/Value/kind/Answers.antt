use Rattle.std.proofs.Common.{◌∙◌}
use Rattle.p21_model_values.proofs.FirstBytes.{kind-known}
use Rattle.p21_model_values.proofs.value.Value.kind.Goals as goal

pub returns-in-Some : goal.returns-in-Some
returns-in-Some c p text = c.kind_by.ensures ∙ kind-known p c.args.self.text.now _ _ text c.in-Some.ensures.cases.0
