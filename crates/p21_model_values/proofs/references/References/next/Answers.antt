use Rattle.p21_model_values.proofs.NamedTexts.{name-fits, name-handed}
use Rattle.p21_model_values.proofs.references.References.next.Goals as goal

pub returns-in_default-name_number-clause-handed : goal.returns-in_default-name_number-clause-handed
returns-in_default-name_number-clause-handed c names are small =
    absurd (name-fits c.args.self.now.rest.now c.in-Some.behind.now c.split_digits.result.0.now c.split_digits.result.1.now names are
    c.in-Some.ensures.names c.split_digits.ensures.bytes_are c.split_digits.ensures.digits c.split_digits.ensures.rest small
    c.in_default-name_number.ensures.none)

pub returns-clause-handed : goal.returns-clause-handed
returns-clause-handed c names are small =
    name-handed c.args.self.now.rest.now c.in-Some.behind.now c.split_digits.result.0.now c.split_digits.result.1.now names
    c.in-Some-name_number.number are c.in-Some.ensures.names c.split_digits.ensures.bytes_are c.split_digits.ensures.digits
    c.split_digits.ensures.rest
    c.in-Some-name_number.ensures.some
