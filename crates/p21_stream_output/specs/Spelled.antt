-- The name of a data section as it is spelled.
use Rattle.std.specs.Prelude.{ℕ, List, []}
use Rattle.p21_spec_exchange.specs.DataSection.{Heading, named, unnamed}
use Rattle.p21_spec_exchange.specs.Spelling.{text_spelling}

-- the spelled name, which has no byte where the section has none
abbrev pub spelled_name : Heading → List ℕ
spelled_name unnamed = []
spelled_name (named name schema) = text_spelling name
