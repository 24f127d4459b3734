-- The type that a type declaration declares (ISO 10303-11, Defined data type, Enumeration data type and Select data type).
use Rattle.std.specs.Prelude.{◌≡◌, ℕ, ◌≤◌, List}
use Rattle.std.specs.List.{AllZip, IsDistinct}
use Rattle.std.specs.Str.{bytes_eq}
use Rattle.p21_spec_schema.specs.WrittenType.{WrittenType, nesting}
use Rattle.p21_spec_schema.specs.TypeDeclaration.{TypeDeclaration, Body, enumeration, select, underlying}
use Rattle.p21_spec_schema.specs.Schema as schema
use Rattle.p21_spec_schema.specs.Schema.{Schema, TypeUse, Member, entity_member, type_member, Kind, alias, items, choice, Defined, EntityNamed, TypeNamed}
use Rattle.p21_spec_schema.specs.Select.{IsSelect}
use Rattle.p21_spec_schema.specs.DeclaredType.{DenotesType, deepest_nesting}

-- the member has this name
abbrev pub MemberNamed : Schema → Member → List ℕ → Type 0
MemberNamed s (entity_member e) name = EntityNamed s e name
MemberNamed s (type_member t) name = TypeNamed s t name

-- not just the name of an entity, and not just the name of a select
abbrev pub MayBeUnderlying : Schema → TypeUse → Type 0
MayBeUnderlying s (schema.entity e) = ⊥
MayBeUnderlying s (schema.defined t) = ¬ IsSelect s t
MayBeUnderlying s other = Unit {0}

-- what the body of a type declaration declares; no item and no member is listed twice
pub data DeclaresKind (s : Schema) : Body → Kind → Type 0 where
  is_alias : (written : WrittenType) (type : TypeUse) → DenotesType s written type → nesting written ≤ deepest_nesting → MayBeUnderlying s type → DeclaresKind s (underlying written) (alias type)
  is_items : (names : List (List ℕ)) → IsDistinct bytes_eq names → DeclaresKind s (enumeration names) (items names)
  is_choice : (names : List (List ℕ)) (members : List Member) → AllZip (MemberNamed s) members names → IsDistinct bytes_eq names → DeclaresKind s (select names) (choice members)

-- the declaration declares this type
pub record DeclaresType (s : Schema) (x : TypeDeclaration) (found : Defined) : Type 0 where
  pub name_is : found.name ≡ x.name
  pub kind_is : DeclaresKind s x.body found.kind
