use Rattle.std.proofs.Common.{◌∙◌}
use Rattle.p21_model_values.proofs.Scanning.{value_ends}
use Rattle.p21_model_values.proofs.size.value_size.Goals as goal

pub returns-clause-size : goal.returns-clause-size
returns-clause-size c p rest written ends is = c.size_to_end.ensures.size ∙ value_ends c.args.bytes.now p rest written ends is
