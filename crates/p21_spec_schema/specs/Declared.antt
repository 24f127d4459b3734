-- The schema that a text declares (ISO 10303-11, Schema declaration; Scope and visibility).
use Rattle.std.specs.Prelude.{◌≡◌, ℕ, ◌+◌, ◌<◌, ◌≤◌, List, ◌++◌, length, map, Some, Contains}
use Rattle.std.specs.List.{AllZip, IsDistinct, enumerate_from}
use Rattle.std.specs.Str.{bytes_eq}
use Rattle.p21_spec_basics.specs.Limits.{text_limit}
use Rattle.p21_spec_schema.specs.ExpressLaying.{LaidLexemes}
use Rattle.p21_spec_schema.specs.SchemaDeclaration.{SchemaDeclaration, schema_lexemes, IsSchemaDeclaration, entities_of, types_of}
use Rattle.p21_spec_schema.specs.Schema as schema
use Rattle.p21_spec_schema.specs.Schema.{Schema, Member, type_member, alias, choice, kind_of}
use Rattle.p21_spec_schema.specs.Supertype.{supertypes_of}
use Rattle.p21_spec_schema.specs.Select.{IsSelect}
use Rattle.p21_spec_schema.specs.DeclaredEntity.{DeclaresEntity}
use Rattle.p21_spec_schema.specs.DefinedType.{DeclaresType}
use Rattle.p21_spec_schema.specs.DeclaredOneOf.{all_one_of_names, DeclaresOneOf}

-- the most entities and types of a schema together (this project's own)
abbrev pub most_declarations : ℕ
most_declarations = 65535

-- no chain of steps comes back: all things have ranks that fall with each step
abbrev pub HasNoCircle : (ℕ → ℕ → Type 0) → Type 0
HasNoCircle Step = (rank : ℕ → ℕ) × ((x y : ℕ) → Step x y → rank y < rank x)

-- f is a direct supertype of e
abbrev pub HasSupertype : Schema → ℕ → ℕ → Type 0
HasSupertype s e f = Contains (supertypes_of s e) f

-- type t is just the name of type u
abbrev pub Renames : Schema → ℕ → ℕ → Type 0
Renames s t u = kind_of s t ≡ Some (alias (schema.defined u))

-- select u is a member of select t
abbrev pub HasSelect : Schema → ℕ → ℕ → Type 0
HasSelect s t u = ((members : List Member) × (kind_of s t ≡ Some (choice members)) × Contains members (type_member u)) × IsSelect s u

-- The schema is what the declaration declares: its entities, types and ONEOF lists in their order, no name twice, and no
-- chain of supertypes, of renamed types or of selects in selects that comes back
pub record DeclaresSchema (tree : SchemaDeclaration) (s : Schema) : Type 0 where
  pub name_is : s.name ≡ tree.name
  pub entities_are : AllZip (λ x found. DeclaresEntity s (entities_of tree.declarations) x.0 x.1 found) (enumerate_from 0 (entities_of tree.declarations)) s.entities
  pub types_are : AllZip (DeclaresType s) (types_of tree.declarations) s.types
  pub one_of_are : AllZip (DeclaresOneOf s) (all_one_of_names (entities_of tree.declarations)) s.one_of_lists
  pub few : length s.entities + length s.types ≤ most_declarations
  pub names_distinct : IsDistinct bytes_eq (map (λ x. x.name) s.entities ++ map (λ x. x.name) s.types)
  pub supertypes_end : HasNoCircle (HasSupertype s)
  pub renaming_ends : HasNoCircle (Renames s)
  pub selects_end : HasNoCircle (HasSelect s)

-- the text is laid as a schema declaration of the grammar, which declares the schema
pub record Declares (bytes : List ℕ) (s : Schema) : Type 0 where
  pub tree : SchemaDeclaration
  pub short : length bytes ≤ text_limit
  pub laid : LaidLexemes (schema_lexemes tree) bytes
  pub in_grammar : IsSchemaDeclaration tree
  pub declares : DeclaresSchema tree s
