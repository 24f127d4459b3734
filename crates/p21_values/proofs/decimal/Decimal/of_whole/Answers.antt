use Rattle.p21_values.proofs.StoredDecimals.{reads_whole}
use Rattle.p21_values.proofs.decimal.Decimal.of_whole.Goals as goal

pub returns : goal.returns
returns c = reads_whole c.parts-negative.result.0 c.parts-negative.result.1.now _ _ c.parts-negative.ensures.value c.of_digits.ensures
