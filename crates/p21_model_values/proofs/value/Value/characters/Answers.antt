use Rattle.p21_model_values.proofs.LedCharacters.{text-left}
use Rattle.p21_model_values.proofs.value.Value.characters.Goals as goal

pub returns-in-Some : goal.returns-in-Some
returns-in-Some c characters t = text-left characters _ c.in-Some.rest.now c.args.self.text.now t c.in-Some.ensures.cases.0
