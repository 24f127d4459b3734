use Rattle.std.proofs.Common.{ap}
use Rattle.std.specs.Prelude.{Some}
use Rattle.p21_spec_exchange.proofs.Names.{name_once}
use Rattle.p21_model_values.proofs.TypedValues.{name-read, name-spelled}
use Rattle.p21_model_values.proofs.value.Value.reference.Goals as goal

pub returns-in-Ok : goal.returns-in-Ok
returns-in-Ok c n text = ap (λ m. Some m) (name_once c.args.self.text.now c.in-Ok.name n c.in-Ok.ensures
    (name-spelled c.args.self.text.now n text))

pub returns-in-Err : goal.returns-in-Err
returns-in-Err c n text = absurd (name-read c.args.self.text.now n (name-spelled c.args.self.text.now n text) c.in-Err.field-0
    c.in-Err.ensures)
