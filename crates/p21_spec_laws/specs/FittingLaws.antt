-- The laws of statements that may stand by themselves, and of texts that name a schema.
use Rattle.std.specs.Prelude.{◌≡◌, ◌↔◌, ℕ, List, [], ◌∷◌}
use Rattle.p21_spec_basics.specs.Limits.{Limits}
use Rattle.p21_spec_laws.specs.UnrefusedStatements.{IsFitting}
use Rattle.p21_spec_exchange.specs.Header.{IsFileSchema}
use Rattle.p21_spec_exchange.specs.Record.{Part}
use Rattle.p21_spec_exchange.specs.Statement.{header}
use Rattle.p21_spec_file.specs.Accepted.{IsLineWithin}
use Rattle.p21_spec_schema.specs.Express.{IsIdentifierByte, upper}
use Rattle.p21_spec_schema.specs.Schema.{Schema}
use Rattle.p21_spec_schema.specs.SchemaName.{NamesSchema}

-- ---- header records

-- a FILE_SCHEMA whose text names the schema
abbrev pub FitsBySchemaText : Type 0
FitsBySchemaText = (s : Schema) (limits : Limits) (part : Part) (chars : List ℕ) → IsFileSchema part chars → NamesSchema chars s.name → IsLineWithin limits (header part) → IsFitting s limits (header part)

-- and every other record
abbrev pub FitsWithNoSchemaText : Type 0
FitsWithNoSchemaText = (s : Schema) (limits : Limits) (part : Part) → ((chars : List ℕ) → ¬ IsFileSchema part chars) → IsLineWithin limits (header part) → IsFitting s limits (header part)

-- ---- schema texts, character by character

abbrev pub SchemaNameAtEnd : Type 0
SchemaNameAtEnd = (name : List ℕ) → NamesSchema [] name ↔ (name ≡ [])

-- a character that the name may have is the next one of the name, without case
abbrev pub SchemaNameByCharacter : Type 0
SchemaNameByCharacter = (char : ℕ) (chars : List ℕ) (next : ℕ) (name : List ℕ) → IsIdentifierByte char → NamesSchema (char ∷ chars) (next ∷ name) ↔ ((upper char ≡ next) × NamesSchema chars name)

-- behind the name no such character stands
abbrev pub SchemaNameNoLonger : Type 0
SchemaNameNoLonger = (char : ℕ) (chars : List ℕ) → IsIdentifierByte char → ¬ NamesSchema (char ∷ chars) []

-- any other character ends the name
abbrev pub SchemaNameUpToOther : Type 0
SchemaNameUpToOther = (char : ℕ) (chars name : List ℕ) → ¬ IsIdentifierByte char → NamesSchema (char ∷ chars) name ↔ (name ≡ [])
