use Rattle.std.proofs.Common.{rules}
use Rattle.p21_spec_exchange.specs.Parameter as parameter
use Rattle.p21_mapping.proofs.Outcomes.{at_declared, at_other}
use Rattle.p21_mapping.proofs.Scalars.{bits_at, bits_too_wide}
use Rattle.p21_mapping.proofs.BaseKinds.{bits-nowhere}
use Rattle.p21_mapping.proofs.scalar.fit_bits.Goals as goal

pub returns-in_default : goal.returns-in_default
returns-in_default c = at_declared c.args.base (parameter.bits c.args.bits) _ c.other_kind.ensures tt c.in_default.not-Plain

pub returns-in_default-of : goal.returns-in_default-of
returns-in_default-of c = at_other c.args.base _ (parameter.bits c.args.bits) c.in-Plain.is (λ is. cc) (λ is. cc)
    (bits-nowhere _ c.args.bits c.in_default-of.not-Bits)

pub returns-then-is_within : goal.returns-then-is_within
returns-then-is_within c = bits_at c.args.base _ _ c.args.bits c.in-Plain.is c.in-Bits.is
    (rw c.len.ensures at (c.is_within.ensures.0 (search rules)))

pub returns-else-is_within : goal.returns-else-is_within
returns-else-is_within c = bits_too_wide c.args.base _ _ c.args.bits c.in-Plain.is c.in-Bits.is
    (λ within. let yes = c.is_within.ensures.1 (rw c.len.ensures within) in search rules)
