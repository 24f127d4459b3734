-- The laws, from the theorems.
use Rattle.p21_spec_laws.proofs.sessions.keeping_laws.Goals as goal
use Rattle.p21_spec_laws.proofs.Beside.{keeps-tell_same}
use Rattle.p21_spec_laws.proofs.Keeps.{keeps-accepted, keeps-at_start, keeps-by_header, keeps-by_instance, keeps-by_line, keeps-few, keeps-file, keeps-held, keeps-lines, keeps-names, keeps-section, keeps-section_names, keeps-size, keeps-text_size, keeps-unserved}

pub returns : goal.returns
returns c = record { at_start = keeps-at_start; by_line = keeps-by_line; by_header = keeps-by_header; by_instance = keeps-by_instance; section = keeps-section; size = keeps-size; section_names = keeps-section_names; names = keeps-names; unserved = keeps-unserved; held = keeps-held; few = keeps-few; accepted = keeps-accepted; text_size = keeps-text_size; has_file = keeps-file; has_lines = keeps-lines; tell_same = keeps-tell_same }
