use Rattle.p21_spec_exchange.specs.Parameter as parameter
use Rattle.p21_mapping.proofs.Outcomes.{at_declared, at_other}
use Rattle.p21_mapping.proofs.Scalars.{number_at, real_at}
use Rattle.p21_mapping.proofs.BaseKinds.{real-nowhere}
use Rattle.p21_mapping.proofs.scalar.fit_real.Goals as goal

pub returns-in_default : goal.returns-in_default
returns-in_default c = at_declared c.args.base (parameter.real c.args.real) _ c.other_kind.ensures tt c.in_default.not-Plain

pub returns-in-Real : goal.returns-in-Real
returns-in-Real c = real_at c.args.base _ c.args.real c.in-Plain.is c.in-Real.is c.holds.ensures

pub returns-in-Number : goal.returns-in-Number
returns-in-Number c = number_at c.args.base _ c.args.real c.in-Plain.is c.in-Number.is c.holds.ensures

pub returns-in_default-of : goal.returns-in_default-of
returns-in_default-of c = at_other c.args.base _ (parameter.real c.args.real) c.in-Plain.is (λ is. cc) (λ is. cc)
    (real-nowhere _ c.args.real c.in_default-of.not-Real c.in_default-of.not-Number)
