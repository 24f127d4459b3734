-- Token separators: blanks and comments (ISO 10303-21, clause 5: token separators).
use Rattle.std.specs.Prelude.{◌≡◌, ℕ, ◌≤◌, ◌⊎◌, List, [], ◌∷◌, ◌++◌}
use Rattle.std.specs.List.{flat_map, AllByRecursion as Each}

-- what may stand between tokens: a separator byte, or a comment with these bytes inside
pub data Separator : Type 0 where
  blank : ℕ → Separator
  comment : List ℕ → Separator

-- `*/` occurs in the bytes followed by `*/` only at the end
abbrev pub IsCommentText : List ℕ → Type 0
IsCommentText inside = (before after : List ℕ) → inside ++ (42 ∷ 47 ∷ []) ≡ before ++ (42 ∷ 47 ∷ after) → after ≡ []

abbrev pub IsSeparator : Separator → Type 0
IsSeparator (blank byte) = (byte ≤ 32) ⊎ (byte ≡ 127)
IsSeparator (comment inside) = IsCommentText inside

abbrev pub separator_bytes : Separator → List ℕ
separator_bytes (blank byte) = byte ∷ []
separator_bytes (comment inside) = 47 ∷ 42 ∷ (inside ++ (42 ∷ 47 ∷ []))

abbrev pub IsSeparatorText : List ℕ → Type 0
IsSeparatorText bytes = (separators : List Separator) × Each IsSeparator separators × (bytes ≡ flat_map separator_bytes separators)
