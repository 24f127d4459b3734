-- The laws, from the theorems.
use Rattle.p21_spec_laws.proofs.files.dead_laws.Goals as goal
use Rattle.p21_spec_laws.proofs.Dead.{other-schema, section-other_schema, section-again, equal-section_names, name-again, equal-names, no-meaning, broken-rule}
use Rattle.p21_spec_laws.proofs.UnfitTargets.{unfit-dead}

pub returns : goal.returns
returns c = record { other_schema = other-schema; section_of_other_schema = section-other_schema; section_again = section-again; equal_section_names = equal-section_names; name_again = name-again; equal_names = equal-names; no_meaning = no-meaning; broken_rule = broken-rule; unfit = unfit-dead }
