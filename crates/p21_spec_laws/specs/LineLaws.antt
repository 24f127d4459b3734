-- The law of the bytes of canonical lines.
use Rattle.std.specs.List.{AllByRecursion as Each}
use Rattle.p21_spec_laws.specs.Written.{IsWrittenStatement}
use Rattle.p21_spec_exchange.specs.CanonicalText.{statement_text}
use Rattle.p21_spec_exchange.specs.Statement.{Statement}
use Rattle.p21_spec_exchange.specs.Text.{IsGraphic}

-- a canonical line holds bytes 20 to 7E alone
abbrev pub LinesAreGraphic : Type 0
LinesAreGraphic = (statement : Statement) → IsWrittenStatement statement → Each IsGraphic (statement_text statement)
