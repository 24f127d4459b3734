use Rattle.p21_tokens.proofs.LeadingTokens.{leads_real, leads_whole}
use Rattle.p21_tokens.proofs.prefix.leading_number.Goals as goal

pub returns-else-not-ends_number : goal.returns-else-not-ends_number
returns-else-not-ends_number c =
    leads_whole c.args.bytes.now c.in-Ok.front.0 c.in_ok-next.field-0.now c.in_ok-next.ensures.lookup.3 c.in-Whole.number
    (rw c.in-Whole.is at (rw c.in-Ok.is at (c.in_ok-front.ensures {u = tt}))) (c.ends_number.ensures c.if-not-ends_number.false)

pub returns-else-not-ends_number-2 : goal.returns-else-not-ends_number-2
returns-else-not-ends_number-2 c =
    leads_real c.args.bytes.now c.in-Ok.front.0 c.in_ok-next.field-0.now c.in_ok-next.ensures.lookup.3 c.in-Real.number
    (rw c.in-Real.is at (rw c.in-Ok.is at (c.in_ok-front.ensures {u = tt}))) (c.ends_number-in-Real.ensures c.if-not-ends_number-2.false)
