-- An entity declaration as it is written, and the lexical elements of it (ISO 10303-11, Entity declaration).
use Rattle.std.specs.Prelude.{ℕ, ◌<◌, Bool, List, [], ◌∷◌, ◌++◌, length, codes, Option, Some, None, Contains, IfSome}
use Rattle.std.specs.List.{flat_map, AllByRecursion as Each}
use Rattle.p21_spec_schema.specs.Express.{Lexeme}
use Rattle.p21_spec_schema.specs.ReservedWord.{IsName, AreNames}
use Rattle.p21_spec_schema.specs.WrittenType.{WrittenType, word, symbols, optional_word, type_lexemes, IsWrittenType}
use Rattle.p21_spec_schema.specs.Run.{IsRun, is_word, is_symbol, none}
use Rattle.p21_spec_schema.specs.Separated.{comma_separated, names_lexemes}
use Rattle.p21_spec_schema.specs.SupertypeConstraint.{SupertypeConstraint, constraint_lexemes, IsConstraint}

-- a new attribute, or `SELF\entity.name`, which redeclares one of a supertype
pub data AttributeName : Type 0 where
  own : List ℕ → AttributeName
  redeclared : List ℕ → List ℕ → AttributeName

-- explicit attributes of one type
pub record ExplicitAttributes : Type 0 where
  pub names : List AttributeName
  pub optional : Bool
  pub type : WrittenType

-- a derived attribute, with its type and its expression as one run
pub record DerivedAttribute : Type 0 where
  pub name : AttributeName
  pub run : List Lexeme

-- what stands from INVERSE, UNIQUE or WHERE on: that word, and a run
pub record Rules : Type 0 where
  pub first : List ℕ
  pub run : List Lexeme

-- an entity declaration: its supertypes if it has a SUBTYPE clause, its derived attributes if it has a DERIVE clause
pub record EntityDeclaration : Type 0 where
  pub name : List ℕ
  pub constraint : SupertypeConstraint
  pub subtype_of : Option (List (List ℕ))
  pub explicit : List ExplicitAttributes
  pub derive : Option (List DerivedAttribute)
  pub rules : Option Rules

-- name, or SELF `\` entity `.` name
abbrev pub attribute_lexemes : AttributeName → List Lexeme
attribute_lexemes (own name) = word name
attribute_lexemes (redeclared entity name) = word (codes "SELF") ++ symbols (codes "\\") ++ word entity ++ symbols (codes ".") ++ word name

-- attribute {`,` attribute} `:` [OPTIONAL] type `;`
abbrev pub explicit_lexemes : ExplicitAttributes → List Lexeme
explicit_lexemes x = comma_separated attribute_lexemes x.names ++ symbols (codes ":") ++ optional_word x.optional (codes "OPTIONAL") ++ type_lexemes x.type ++ symbols (codes ";")

-- attribute `:` run `;`
abbrev pub derived_lexemes : DerivedAttribute → List Lexeme
derived_lexemes x = attribute_lexemes x.name ++ symbols (codes ":") ++ x.run ++ symbols (codes ";")

-- SUBTYPE OF names, or nothing
abbrev pub subtype_lexemes : Option (List (List ℕ)) → List Lexeme
subtype_lexemes None = []
subtype_lexemes (Some names) = word (codes "SUBTYPE") ++ word (codes "OF") ++ names_lexemes names

-- DERIVE {derived attribute}, or nothing
abbrev pub derive_lexemes : Option (List DerivedAttribute) → List Lexeme
derive_lexemes None = []
derive_lexemes (Some derived) = word (codes "DERIVE") ++ flat_map derived_lexemes derived

-- INVERSE, UNIQUE or WHERE and a run, or nothing
abbrev pub rules_lexemes : Option Rules → List Lexeme
rules_lexemes None = []
rules_lexemes (Some rules) = word rules.first ++ rules.run

-- ENTITY name [constraint] [SUBTYPE OF names] `;` {explicit attributes} [DERIVE ..] [rules] END_ENTITY `;`
abbrev pub entity_lexemes : EntityDeclaration → List Lexeme
entity_lexemes x =
    word (codes "ENTITY") ++ word x.name ++ constraint_lexemes x.constraint ++ subtype_lexemes x.subtype_of ++ symbols (codes ";") ++ flat_map explicit_lexemes x.explicit
    ++ derive_lexemes x.derive ++ rules_lexemes x.rules ++ word (codes "END_ENTITY") ++ symbols (codes ";")

-- what is named is a name
abbrev pub IsAttributeName : AttributeName → Type 0
IsAttributeName (own name) = IsName name
IsAttributeName (redeclared entity name) = IsName entity × IsName name

-- one name or more, and a type
abbrev pub AreExplicit : ExplicitAttributes → Type 0
AreExplicit x = (0 < length x.names) × Each IsAttributeName x.names × IsWrittenType x.type

-- the run ends at the first `;`
abbrev pub IsDerived : DerivedAttribute → Type 0
IsDerived x = IsAttributeName x.name × IsRun none (is_symbol 59) x.run

-- the run ends at the first END_ENTITY
abbrev pub AreRules : Rules → Type 0
AreRules rules = Contains (codes "INVERSE" ∷ codes "UNIQUE" ∷ codes "WHERE" ∷ []) rules.first × IsRun none (is_word (codes "END_ENTITY")) rules.run

-- an entity declaration of the grammar
pub record IsEntityDeclaration (x : EntityDeclaration) : Type 0 where
  pub name_is : IsName x.name
  pub constraint_is : IsConstraint x.constraint
  pub supertypes_are : IfSome x.subtype_of AreNames
  pub explicit_are : Each AreExplicit x.explicit
  pub derived_are : IfSome x.derive (Each IsDerived)
  pub rules_are : IfSome x.rules AreRules
