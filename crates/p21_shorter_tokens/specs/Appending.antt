-- What is appended to a text.
use Rattle.std.specs.Prelude.{◌≡◌, ℕ, Bool, true, false, List, ◌++◌}
use Rattle.p21_values.specs.Canonical.{Continues}

-- the bytes are appended, or nothing is
abbrev pub AppendsAllOrNone : Bool → List ℕ → List ℕ → List ℕ → Type 0
AppendsAllOrNone true bytes old new = new ≡ old ++ bytes
AppendsAllOrNone false bytes old new = new ≡ old

-- the bytes are appended, or a part of what was to be
abbrev pub AppendsAllOrSome : Bool → List ℕ → List ℕ → List ℕ → Type 0
AppendsAllOrSome true bytes old new = new ≡ old ++ bytes
AppendsAllOrSome false bytes old new = Continues old new
