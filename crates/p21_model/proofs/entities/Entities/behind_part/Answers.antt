use Rattle.p21_model.proofs.EntitySets.{behind-left}
use Rattle.p21_model.proofs.entities.Entities.behind_part.Goals as goal

pub returns-in_default-clause-told : goal.returns-in_default-clause-told
returns-in_default-clause-told c entities tells none = absurd (c.in_default.ensures.told tells.params tells.after tells.left)

pub returns-clause-told : goal.returns-clause-told
returns-clause-told c entities tells none =
    behind-left c.args.self.now.schema.now _ c.args.self.now.values.rest.now entities c.in-Some.parts.now c.of_part.result tells none
    (c.in-Some.ensures.told tells.params tells.after tells.left) c.of_part.ensures.none c.of_part.ensures.some
