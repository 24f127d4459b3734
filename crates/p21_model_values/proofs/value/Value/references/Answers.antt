use Rattle.p21_model_values.proofs.NamedTexts.{text-names, text-small}
use Rattle.p21_model_values.proofs.value.Value.references.Goals as goal

pub returns : goal.returns
returns c p t = (text-names c.args.self.text.now p t, text-small c.args.self.text.now p t)
