use Rattle.std.proofs.Common.{subst}
use Rattle.p21_values.specs.Decimal.{IsDecimal}
use Rattle.p21_values.proofs.StoredDecimals.{stored_is_decimal}
use Rattle.p21_values.proofs.decimal.Decimal.holds.Goals as goal

pub returns : goal.returns
returns c = subst IsDecimal c.self.view_is (stored_is_decimal _ _ _ c.self.invariant)
