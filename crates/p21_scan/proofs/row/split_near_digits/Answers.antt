use Rattle.std.proofs.Common.{sym, subst}
use Rattle.p21_spec_basics.specs.Digits.{AllDigits}
use Rattle.p21_spec_exchange.proofs.Forms.{NoDigitFirst}
use Rattle.p21_scan.proofs.row.split_near_digits.Goals as goal

pub returns-clause-digits : goal.returns-clause-digits
returns-clause-digits c = subst AllDigits (sym c.split_at.ensures.front) c.near_digits.ensures.digits

pub returns-clause-rest : goal.returns-clause-rest
returns-clause-rest c = subst NoDigitFirst (sym c.split_at.ensures.back) c.near_digits.ensures.ends
