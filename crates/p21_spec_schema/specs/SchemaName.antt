-- The schema that a file names (ISO 10303-21, header section: FILE_SCHEMA; this project reads a name alone).
use Rattle.std.specs.Prelude.{◌≡◌, ℕ, List, ◌∷◌, ◌++◌, map}
use Rattle.std.specs.List.{AllByRecursion as Each}
use Rattle.p21_spec_schema.specs.Express.{IsIdentifierByte, upper}

-- the longest prefix of letters, digits and `_` is the name, without case: a schema keeps its name in upper case
pub record NamesSchema (chars name : List ℕ) : Type 0 where
  pub prefix : List ℕ
  pub rest : List ℕ
  pub chars_are : chars ≡ prefix ++ rest
  pub prefix_is : Each IsIdentifierByte prefix
  pub longest : (char : ℕ) (more : List ℕ) → rest ≡ char ∷ more → IsIdentifierByte char → ⊥
  pub name_is : map upper prefix ≡ name
