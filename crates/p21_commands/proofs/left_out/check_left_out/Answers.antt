use Rattle.p21_difference_rows.specs.Asked.{attribute_name_of, left_out_of}
use Rattle.p21_commands.proofs.Leaving.{attribute-refused}
use Rattle.p21_commands.proofs.left_out.check_left_out.Goals as goal

pub returns-in-Some-clause-err : goal.returns-in-Some-clause-err
returns-in-Some-clause-err c = attribute-refused c.args.schema.now (left_out_of c.args.left_out) (attribute_name_of c.in-Some.name)
    c.unknown.result c.in-Some.ensures.0 c.in-Some.ensures.1 c.unknown.ensures
