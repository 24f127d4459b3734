-- The reserved words that no name may be (ISO 10303-11, Reserved words). The other reserved words of the standard may be names here.
use Rattle.std.specs.Prelude.{ℕ, List, [], ◌∷◌, ◌<◌, length, codes, Contains}
use Rattle.std.specs.List.{AllByRecursion as Each}

-- in upper case
abbrev pub reserved_words : List (List ℕ)
reserved_words =
    codes "SCHEMA" ∷ codes "END_SCHEMA" ∷ codes "ENTITY" ∷ codes "END_ENTITY" ∷ codes "ABSTRACT" ∷ codes "SUPERTYPE" ∷ codes "SUBTYPE" ∷ codes "OF" ∷ codes "DERIVE" ∷ codes "INVERSE"
    ∷ codes "UNIQUE" ∷ codes "WHERE" ∷ codes "OPTIONAL" ∷ codes "SELF" ∷ codes "TYPE" ∷ codes "END_TYPE" ∷ codes "ENUMERATION" ∷ codes "SELECT" ∷ codes "INTEGER" ∷ codes "REAL" ∷ codes "NUMBER"
    ∷ codes "BOOLEAN" ∷ codes "LOGICAL" ∷ codes "STRING" ∷ codes "BINARY" ∷ codes "FIXED" ∷ codes "ARRAY" ∷ codes "LIST" ∷ codes "SET" ∷ codes "BAG" ∷ codes "AGGREGATE" ∷ codes "BASED_ON"
    ∷ codes "EXTENSIBLE" ∷ codes "GENERIC" ∷ codes "GENERIC_ENTITY" ∷ codes "RENAMED" ∷ codes "USE" ∷ codes "REFERENCE" ∷ codes "FUNCTION" ∷ codes "END_FUNCTION" ∷ codes "PROCEDURE"
    ∷ codes "END_PROCEDURE" ∷ codes "RULE" ∷ codes "END_RULE" ∷ codes "CONSTANT" ∷ codes "END_CONSTANT" ∷ codes "SUBTYPE_CONSTRAINT" ∷ codes "END_SUBTYPE_CONSTRAINT" ∷ codes "ONEOF" ∷ []

-- an identifier that may be a name
abbrev pub IsName : List ℕ → Type 0
IsName name = ¬ Contains reserved_words name

-- one name or more
abbrev pub AreNames : List (List ℕ) → Type 0
AreNames names = (0 < length names) × Each IsName names
