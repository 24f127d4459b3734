-- The laws, from the theorems.
use Rattle.p21_spec_syntax.proofs.laws.ill_formed_laws.Goals as goal
use Rattle.p21_spec_syntax.proofs.IllFormed.{early-section, missing-target, name-again, no-name, other-name, other-section, section-again}

pub returns : goal.returns
returns c = record { no_name = no-name; other_name = other-name; other_section = other-section; early_section = early-section; section_again = section-again; name_again = name-again; missing_target = missing-target }
