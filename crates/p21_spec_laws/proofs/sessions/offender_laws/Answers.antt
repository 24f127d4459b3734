-- The laws, from the theorems.
use Rattle.p21_spec_laws.proofs.sessions.offender_laws.Goals as goal
use Rattle.p21_spec_laws.proofs.Offenders.{given-taken, unrefused-has_size, no-file_dead, offender-dead, unlaid-dead}

pub returns : goal.returns
returns c = record { given = given-taken; unlaid = unlaid-dead; no_file = no-file_dead; offender = offender-dead; unrefused = unrefused-has_size }
