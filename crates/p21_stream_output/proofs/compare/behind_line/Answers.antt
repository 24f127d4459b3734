use Rattle.p21_stream_output.proofs.Comparing.{not_first, then_match}
use Rattle.p21_stream_output.proofs.compare.behind_line.Goals as goal

pub returns-in_default : goal.returns-in_default
returns-in_default c = not_first _ _ _ c.in_default.ensures

pub returns : goal.returns
returns c = then_match (λ rest. rest.now) _ _ _ _ _ c.in-Some.ensures c.behind-2.ensures
