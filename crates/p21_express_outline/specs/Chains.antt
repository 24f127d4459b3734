-- The numbers to which types lead.
use Rattle.std.specs.Prelude.{◌≡◌, ℕ, ◌<◌, List, Some, length, Contains}
use Rattle.p21_spec_schema.specs.Schema as schema
use Rattle.p21_spec_schema.specs.Schema.{Schema, Member, kind_of}
use Rattle.p21_spec_schema.specs.Declared.{Renames}

-- each of them is a type of the schema
abbrev pub AreTypes : Schema → Type 0
AreTypes s = (t u : ℕ) → Renames s t u → u < length s.types

-- each type that is a member of a select is one of the schema
abbrev pub AreMembers : Schema → Type 0
AreMembers s = (t u : ℕ) (members : List Member) → kind_of s t ≡ Some (schema.choice members) → Contains members (schema.type_member u)
    → u < length s.types
