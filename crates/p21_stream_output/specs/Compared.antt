-- A text beside the bytes of a canonical file.
use Rattle.std.specs.Prelude.{◌≢◌, ℕ, List, ◌++◌}

-- the text doesn't begin with this prefix
abbrev pub LacksPrefix : List ℕ → List ℕ → Type 0
LacksPrefix text front = (rest : List ℕ) → text ≢ front ++ rest
