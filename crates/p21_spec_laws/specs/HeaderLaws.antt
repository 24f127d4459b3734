-- The laws of header records and their canonical lines.
use Rattle.std.specs.Prelude.{◌≡◌, ◌↔◌}
use Rattle.p21_spec_laws.specs.Written.{IsWritten, IsWrittenStatement}
use Rattle.p21_spec_exchange.specs.CanonicalText.{param_text, statement_text}
use Rattle.p21_spec_exchange.specs.Parameter.{Param}
use Rattle.p21_spec_exchange.specs.Record.{Part}
use Rattle.p21_spec_exchange.specs.Statement.{header}
use Rattle.p21_spec_file.specs.SameFile.{SameParam, SamePart}

-- two parameters of header records are the same exactly if their canonical texts are equal
abbrev pub TextsTellHeaderParameters : Type 0
TextsTellHeaderParameters = (p q : Param) → IsWritten p → IsWritten q → SameParam p q ↔ (param_text p ≡ param_text q)

-- two header records are the same exactly if their canonical lines are equal
abbrev pub LinesTellHeaderRecords : Type 0
LinesTellHeaderRecords = (a b : Part) → IsWrittenStatement (header a) → IsWrittenStatement (header b) → SamePart a b ↔ (statement_text (header a) ≡ statement_text (header b))
