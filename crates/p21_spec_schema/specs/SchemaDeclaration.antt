-- A schema declaration as it is written, and the lexical elements of it (ISO 10303-11, Schema declaration).
use Rattle.std.specs.Prelude.{ℕ, Bool, true, false, List, [], ◌∷◌, ◌++◌, codes, Option, Some, None, Contains, ◌&&◌}
use Rattle.std.specs.List.{flat_map, AllByRecursion as Each}
use Rattle.p21_spec_schema.specs.Express.{Lexeme, simple_string}
use Rattle.p21_spec_schema.specs.ReservedWord.{IsName}
use Rattle.p21_spec_schema.specs.WrittenType.{word, symbols}
use Rattle.p21_spec_schema.specs.Run.{IsRun, is_word}
use Rattle.p21_spec_schema.specs.EntityDeclaration.{EntityDeclaration, entity_lexemes, IsEntityDeclaration}
use Rattle.p21_spec_schema.specs.TypeDeclaration.{TypeDeclaration, type_declaration_lexemes, IsTypeDeclaration}

-- a declaration that is read over, from its first word to its last
pub record ReadOver : Type 0 where
  pub first : List ℕ
  pub last : List ℕ
  pub nests : Bool
  pub run : List Lexeme

-- an entity, a type, or what is read over
pub data Declaration : Type 0 where
  entity : EntityDeclaration → Declaration
  defined : TypeDeclaration → Declaration
  read_over : ReadOver → Declaration

-- a name, the version string if there is one, and the declarations
pub record SchemaDeclaration : Type 0 where
  pub name : List ℕ
  pub version : Option (List ℕ)
  pub declarations : List Declaration

-- first run last `;`
abbrev pub read_over_lexemes : ReadOver → List Lexeme
read_over_lexemes x = word x.first ++ x.run ++ word x.last ++ symbols (codes ";")

-- the lexemes of a declaration
abbrev pub declaration_lexemes : Declaration → List Lexeme
declaration_lexemes (entity x) = entity_lexemes x
declaration_lexemes (defined x) = type_declaration_lexemes x
declaration_lexemes (read_over x) = read_over_lexemes x

-- a simple string literal, or nothing
abbrev pub version_lexemes : Option (List ℕ) → List Lexeme
version_lexemes None = []
version_lexemes (Some version) = simple_string version ∷ []

-- SCHEMA name [version] `;` {declaration} END_SCHEMA `;`
abbrev pub schema_lexemes : SchemaDeclaration → List Lexeme
schema_lexemes x = word (codes "SCHEMA") ++ word x.name ++ version_lexemes x.version ++ symbols (codes ";") ++ flat_map declaration_lexemes x.declarations ++ word (codes "END_SCHEMA") ++ symbols (codes ";")

-- the first and the last word of what is read over, and whether the first one opens within it
abbrev pub read_over_words : List (List ℕ × List ℕ × Bool)
read_over_words =
    (codes "FUNCTION", codes "END_FUNCTION", true) ∷ (codes "PROCEDURE", codes "END_PROCEDURE", true) ∷ (codes "RULE", codes "END_RULE", false)
    ∷ (codes "CONSTANT", codes "END_CONSTANT", false) ∷ (codes "SUBTYPE_CONSTRAINT", codes "END_SUBTYPE_CONSTRAINT", false) ∷ []

-- the run ends at the last word, where that closes what the first one opens
abbrev pub IsReadOver : ReadOver → Type 0
IsReadOver x = Contains read_over_words (x.first, x.last, x.nests) × IsRun (λ lexeme. x.nests && is_word x.first lexeme) (is_word x.last) x.run

-- a declaration of the grammar
abbrev pub IsDeclaration : Declaration → Type 0
IsDeclaration (entity x) = IsEntityDeclaration x
IsDeclaration (defined x) = IsTypeDeclaration x
IsDeclaration (read_over x) = IsReadOver x

-- a schema declaration of the grammar
pub record IsSchemaDeclaration (x : SchemaDeclaration) : Type 0 where
  pub name_is : IsName x.name
  pub declarations_are : Each IsDeclaration x.declarations

-- the entity declarations, in their order
abbrev pub entities_of : List Declaration → List EntityDeclaration
entities_of [] = []
entities_of (entity x ∷ declarations) = x ∷ entities_of declarations
entities_of (defined x ∷ declarations) = entities_of declarations
entities_of (read_over x ∷ declarations) = entities_of declarations

-- the type declarations, in their order
abbrev pub types_of : List Declaration → List TypeDeclaration
types_of [] = []
types_of (entity x ∷ declarations) = types_of declarations
types_of (defined x ∷ declarations) = x ∷ types_of declarations
types_of (read_over x ∷ declarations) = types_of declarations
