-- The limits within which a schema text is read (this project's own): the length of the text, the number of declarations, the
-- nesting of aggregates, widths and bounds.
use Rattle.std.specs.Prelude.{ℕ, ◌+◌, ◌≤◌, length, Option, Some}
use Rattle.std.specs.List.{AllByRecursion as Each}
use Rattle.p21_spec_schema.specs.Schema as schema
use Rattle.p21_spec_schema.specs.WrittenType.{Width, Bounds, WrittenType, string_type, binary_type, array_type, list_type, set_type, bag_type, nesting}
use Rattle.p21_spec_schema.specs.DeclaredType.{DenotesWidth, DenotesBounds, deepest_nesting}
use Rattle.p21_spec_schema.specs.EntityDeclaration.{ExplicitAttributes, EntityDeclaration}
use Rattle.p21_spec_schema.specs.TypeDeclaration.{Body, enumeration, select, underlying, TypeDeclaration}
use Rattle.p21_spec_schema.specs.SchemaDeclaration.{SchemaDeclaration, entities_of, types_of}
use Rattle.p21_spec_schema.specs.Declared.{most_declarations}

abbrev pub HasWidth : Option Width → Type 0
HasWidth written = (width : Option schema.Width) × DenotesWidth written width

abbrev pub HasBounds : Option Bounds → Type 0
HasBounds written = (low : ℕ) × (high : Option ℕ) × DenotesBounds written low high

-- an array has an upper bound
abbrev pub HasBothBounds : Bounds → Type 0
HasBothBounds written = (low high : ℕ) × DenotesBounds (Some written) low (Some high)

-- widths and bounds are numbers of a schema
abbrev pub HasNumbers : WrittenType → Type 0
HasNumbers (string_type width) = HasWidth width
HasNumbers (binary_type width) = HasWidth width
HasNumbers (array_type bounds optional unique element) = HasBothBounds bounds × HasNumbers element
HasNumbers (list_type bounds unique element) = HasBounds bounds × HasNumbers element
HasNumbers (set_type bounds element) = HasBounds bounds × HasNumbers element
HasNumbers (bag_type bounds element) = HasBounds bounds × HasNumbers element
HasNumbers other = Unit {0}

abbrev pub IsTypeWithin : WrittenType → Type 0
IsTypeWithin type = HasNumbers type × (nesting type ≤ deepest_nesting)

abbrev pub AreAttributesWithin : ExplicitAttributes → Type 0
AreAttributesWithin x = IsTypeWithin x.type

abbrev pub IsEntityWithin : EntityDeclaration → Type 0
IsEntityWithin x = Each AreAttributesWithin x.explicit

abbrev pub IsBodyWithin : Body → Type 0
IsBodyWithin (enumeration names) = Unit {0}
IsBodyWithin (select names) = Unit {0}
IsBodyWithin (underlying type) = IsTypeWithin type

abbrev pub IsDefinedWithin : TypeDeclaration → Type 0
IsDefinedWithin x = IsBodyWithin x.body

pub record IsSchemaWithin (x : SchemaDeclaration) : Type 0 where
  pub entities_within : Each IsEntityWithin (entities_of x.declarations)
  pub types_within : Each IsDefinedWithin (types_of x.declarations)
  pub count_within : length (entities_of x.declarations) + length (types_of x.declarations) ≤ most_declarations
