use Rattle.std.proofs.Common.{rules}
use Rattle.p21_spec_exchange.specs.Parameter as parameter
use Rattle.p21_mapping.proofs.Outcomes.{at_declared, at_other}
use Rattle.p21_mapping.proofs.Scalars.{text_at, text_too_wide}
use Rattle.p21_mapping.proofs.BaseKinds.{text-nowhere}
use Rattle.p21_mapping.proofs.scalar.fit_text.Goals as goal

pub returns-in_default : goal.returns-in_default
returns-in_default c = at_declared c.args.base (parameter.text c.args.text) _ c.other_kind.ensures tt c.in_default.not-Plain

pub returns-in_default-of : goal.returns-in_default-of
returns-in_default-of c = at_other c.args.base _ (parameter.text c.args.text) c.in-Plain.is (λ is. cc) (λ is. cc)
    (text-nowhere _ c.args.text c.in_default-of.not-Text)

pub returns-then-is_within : goal.returns-then-is_within
returns-then-is_within c = text_at c.args.base _ _ c.args.text c.in-Plain.is c.in-Text.is
    (rw c.len.ensures at (c.is_within.ensures.0 (search rules))) c.holds.ensures

pub returns-else-is_within : goal.returns-else-is_within
returns-else-is_within c = text_too_wide c.args.base _ _ c.args.text c.in-Plain.is c.in-Text.is
    (λ within. let yes = c.is_within.ensures.1 (rw c.len.ensures within) in search rules)
