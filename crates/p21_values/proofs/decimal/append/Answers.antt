use Rattle.std.proofs.Common.{subst, arith}
use Rattle.std.proofs.lemmas.Grind.{common_steps}
use Rattle.p21_values.specs.Decimal.{IsDecimal}
use Rattle.p21_values.proofs.StoredDecimals.{stored_is_decimal, stored_spelling}
use Rattle.p21_values.proofs.decimal.append.Goals as goal

pub returns-in_err-append_significand-clause-value : goal.returns-in_err-append_significand-clause-value
returns-in_err-append_significand-clause-value c = subst IsDecimal c.decimal.view_is (stored_is_decimal _ _ _ c.decimal.invariant)

pub returns-in_err-append_exponent-clause-value : goal.returns-in_err-append_exponent-clause-value
returns-in_err-append_exponent-clause-value c = subst IsDecimal c.decimal.view_is (stored_is_decimal _ _ _ c.decimal.invariant)

pub returns-clause-value : goal.returns-clause-value
returns-clause-value c = subst IsDecimal c.decimal.view_is (stored_is_decimal _ _ _ c.decimal.invariant)

pub returns-clause-ok : goal.returns-clause-ok
returns-clause-ok c = rw (← c.decimal.view_is, stored_spelling _ _ _ c.decimal.invariant) (grind (arith, common_steps))
