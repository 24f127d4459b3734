-- A type declaration as it is written, and the lexical elements of it (ISO 10303-11, Type declaration, Enumeration data type and Select data type).
use Rattle.std.specs.Prelude.{ℕ, List, [], ◌++◌, codes, Option, Some, None, IfSome}
use Rattle.p21_spec_schema.specs.Express.{Lexeme}
use Rattle.p21_spec_schema.specs.ReservedWord.{IsName, AreNames}
use Rattle.p21_spec_schema.specs.WrittenType.{WrittenType, word, symbols, type_lexemes, IsWrittenType}
use Rattle.p21_spec_schema.specs.Run.{IsRun, is_word, none}
use Rattle.p21_spec_schema.specs.Separated.{names_lexemes}

-- an enumeration of items, a select of entities and types, or an underlying type
pub data Body : Type 0 where
  enumeration : List (List ℕ) → Body
  select : List (List ℕ) → Body
  underlying : WrittenType → Body

-- WHERE stands there with a run, or not
pub record TypeDeclaration : Type 0 where
  pub name : List ℕ
  pub body : Body
  pub rules : Option (List Lexeme)

-- ENUMERATION OF names, SELECT names, or a type
abbrev pub body_lexemes : Body → List Lexeme
body_lexemes (enumeration names) = word (codes "ENUMERATION") ++ word (codes "OF") ++ names_lexemes names
body_lexemes (select names) = word (codes "SELECT") ++ names_lexemes names
body_lexemes (underlying type) = type_lexemes type

-- WHERE run, or nothing
abbrev pub where_lexemes : Option (List Lexeme) → List Lexeme
where_lexemes None = []
where_lexemes (Some run) = word (codes "WHERE") ++ run

-- TYPE name `=` body `;` [WHERE run] END_TYPE `;`
abbrev pub type_declaration_lexemes : TypeDeclaration → List Lexeme
type_declaration_lexemes x =
    word (codes "TYPE") ++ word x.name ++ symbols (codes "=") ++ body_lexemes x.body ++ symbols (codes ";") ++ where_lexemes x.rules ++ word (codes "END_TYPE") ++ symbols (codes ";")

-- one name or more, or a type
abbrev pub IsBody : Body → Type 0
IsBody (enumeration names) = AreNames names
IsBody (select names) = AreNames names
IsBody (underlying type) = IsWrittenType type

-- a type declaration of the grammar; the run ends at the first END_TYPE
pub record IsTypeDeclaration (x : TypeDeclaration) : Type 0 where
  pub name_is : IsName x.name
  pub body_is : IsBody x.body
  pub rules_are : IfSome x.rules (IsRun none (is_word (codes "END_TYPE")))
