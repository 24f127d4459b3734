use Rattle.p21_express_outline.proofs.laws.one_schema.Goals as goal
use Rattle.p21_express_outline.proofs.OneSchema.{one_schema}

-- src/laws.rt:4:1
pub returns : goal.returns
returns c = one_schema
