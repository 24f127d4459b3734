-- The laws, from the theorems.
use Rattle.p21_spec_laws.proofs.sessions.among_laws.Goals as goal
use Rattle.p21_spec_laws.proofs.Among.{instance-in_section, instances-apart, parts-are, sections-are, sections-by_header, sections-by_instance, sections-by_line, statements-tell}

pub returns : goal.returns
returns c = record { parts = parts-are; sections = sections-are; tree = statements-tell; instances = instances-apart; in_section = instance-in_section; by_line = sections-by_line; by_header = sections-by_header; by_instance = λ given n r. sections-by_instance given (n, r) }
