-- The laws, from the theorems.
use Rattle.p21_spec_laws.proofs.records.need_laws.Goals as goal
use Rattle.p21_spec_laws.proofs.RecordTheorems.{needs-decide, has-needs_apart, needs-are_references, needs-served, served-fit}

pub returns : goal.returns
returns c = record { decide = needs-decide; has_needs = has-needs_apart; are_references = needs-are_references; can_be_served = needs-served; served_fit = served-fit }
