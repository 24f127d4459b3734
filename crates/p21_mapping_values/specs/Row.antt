-- What stands in front of a parameter in a row.
use Rattle.std.specs.Prelude.{ℕ, Bool, true, false, List, [], codes}

-- a comma, unless it is the first
abbrev pub separator : Bool → List ℕ
separator true = []
separator false = codes ","
