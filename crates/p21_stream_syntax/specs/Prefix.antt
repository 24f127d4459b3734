-- The longest prefix of letters, digits and `_`.
use Rattle.std.specs.Prelude.{ℕ, zero, suc, List, [], ◌∷◌}
use Rattle.p21_spec_schema.specs.Express.{IsIdentifierByte}

-- the longest prefix has this length
abbrev pub IsLongestPrefix : List ℕ → ℕ → Type 0
IsLongestPrefix [] zero = Unit {0}
IsLongestPrefix [] (suc n) = ⊥
IsLongestPrefix (char ∷ chars) zero = ¬ IsIdentifierByte char
IsLongestPrefix (char ∷ chars) (suc n) = IsIdentifierByte char × IsLongestPrefix chars n
