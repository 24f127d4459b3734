-- The laws, from the theorems.
use Rattle.p21_spec_laws.proofs.files.size_laws.Goals as goal
use Rattle.p21_spec_laws.proofs.Dead.{long-section_line, long-header, long-instance}
use Rattle.p21_spec_laws.proofs.TokenPrefixes.{long-source, long-statement, long-lexemes}
use Rattle.p21_spec_laws.proofs.LongStatements.{full-statement}
use Rattle.p21_spec_laws.proofs.LongFiles.{narrow, long-file}

pub returns : goal.returns
returns c = record { long_source = long-source; long_statement = long-statement; long_lexemes = long-lexemes; full_statement = full-statement; long_section_line = long-section_line; long_header = long-header; long_instance = long-instance; narrow = narrow; long_file = long-file }
