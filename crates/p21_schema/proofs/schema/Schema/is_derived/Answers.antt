use Rattle.std.proofs.Common.{inr}
use Rattle.p21_schema.proofs.schema.Schema.is_derived.Goals as goal

pub returns : goal.returns
returns c = (
  λ yes. let (e, among, (derives, counts)) = c.is_derived_in.ensures.0 yes in (e, derives),
  λ (e, derives). c.is_derived_in.ensures.1 (e, c.redeclarers_of.ensures.all e (inr derives), (derives, tt)),
)
