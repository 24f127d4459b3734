use Rattle.std.proofs.lemmas.Result.{on_ok_weaker}
use Rattle.p21_difference_rows.proofs.Chains.{two}
use Rattle.p21_difference_rows.proofs.fronts.push_value_front.Goals as goal

pub returns : goal.returns
returns c = on_ok_weaker c.push_attribute.result (λ is. two _ _ _ _ _ c.in_ok-push_in_both.ensures is) c.push_attribute.ensures
