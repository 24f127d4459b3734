-- Keywords and the characters of enumeration items (ISO 10303-21, clause 6: tokens, keyword and enumeration).
use Rattle.std.specs.Prelude.{◌≡◌, ℕ, ◌≤◌, ◌⊎◌, List, [], ◌∷◌}
use Rattle.std.specs.List.{AllByRecursion as Each}
use Rattle.p21_spec_basics.specs.Digits.{IsDigit}

-- `A` to `Z`, or `_`
abbrev pub IsUpper : ℕ → Type 0
IsUpper byte = ((65 ≤ byte) × (byte ≤ 90)) ⊎ (byte ≡ 95)

-- `A` to `Z`, `_`, or a digit
abbrev pub IsKeywordByte : ℕ → Type 0
IsKeywordByte byte = IsUpper byte ⊎ IsDigit byte

-- a letter or `_`, then letters, digits and `_`
abbrev pub IsKeyword : List ℕ → Type 0
IsKeyword [] = ⊥
IsKeyword (byte ∷ bytes) = IsUpper byte × Each IsKeywordByte bytes
