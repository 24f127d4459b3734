use Rattle.std.proofs.lemmas.Result.{err_from_is_err_and}
use Rattle.p21_spec_exchange.specs.Parameter as parameter
use Rattle.p21_mapping.proofs.Outcomes.{at_declared, at_other}
use Rattle.p21_mapping.proofs.Scalars.{number_of_whole, number_out_of_range, whole_at}
use Rattle.p21_mapping.proofs.BaseKinds.{whole-nowhere}
use Rattle.p21_mapping.proofs.scalar.fit_whole.Goals as goal

pub returns-in_default : goal.returns-in_default
returns-in_default c = at_declared c.args.base (parameter.whole c.args.whole) _ c.other_kind.ensures tt c.in_default.not-Plain

pub returns-in-Whole : goal.returns-in-Whole
returns-in-Whole c = whole_at c.args.base _ c.args.whole c.in-Plain.is c.in-Whole.is

pub returns-in_ok-number-in-Number : goal.returns-in_ok-number-in-Number
returns-in_ok-number-in-Number c = number_of_whole c.args.base _ c.args.whole _ c.in-Plain.is c.in-Number.is
    c.in_ok-number-in-Number.ensures c.holds.ensures

pub returns-in_err-number-in-Number : goal.returns-in_err-number-in-Number
returns-in_err-number-in-Number c =
    let p = err_from_is_err_and c.from_residual.result c.from_residual.ensures.1 in
    rw (p.1, p.2) (number_out_of_range c.args.base _ c.args.whole _ c.in-Plain.is c.in-Number.is c.in_err-number-in-Number.ensures)

pub returns-in_default-of : goal.returns-in_default-of
returns-in_default-of c = at_other c.args.base _ (parameter.whole c.args.whole) c.in-Plain.is (λ is. cc) (λ is. cc)
    (whole-nowhere _ c.args.whole c.in_default-of.not-Whole c.in_default-of.not-Number)
