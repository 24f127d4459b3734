-- The type that a declaration writes: its widths and bounds as numbers, its names resolved (ISO 10303-11, Data types).
use Rattle.std.specs.Prelude.{◌≡◌, ℕ, ◌<◌, ◌≤◌, Bool, List, Option, Some, None}
use Rattle.p21_spec_basics.specs.Digits.{number}
use Rattle.p21_spec_schema.specs.WrittenType as written
use Rattle.p21_spec_schema.specs.WrittenType.{WrittenType, integer_type, real_type, number_type, boolean_type, logical_type, string_type, binary_type, named_type, array_type, list_type, set_type, bag_type, Bounds, UpperBound, bounded, unbounded}
use Rattle.p21_spec_schema.specs.Schema as schema
use Rattle.p21_spec_schema.specs.Schema.{Schema, TypeUse, EntityNamed, TypeNamed}

-- no bound and no width is over this (this project's own)
abbrev pub largest_bound : ℕ
largest_bound = 4294967295

-- the most aggregate types that stand one in another in a declaration (this project's own)
abbrev pub deepest_nesting : ℕ
deepest_nesting = 32

-- a width is not 0
abbrev pub DenotesWidth : Option written.Width → Option schema.Width → Type 0
DenotesWidth None width = width ≡ None
DenotesWidth (Some w) width = (width ≡ Some (record { most = number w.most; fixed = w.fixed })) × (0 < number w.most) × (number w.most ≤ largest_bound)

-- an upper bound is not below the lower bound
abbrev pub DenotesUpperBound : ℕ → UpperBound → Option ℕ → Type 0
DenotesUpperBound low unbounded high = high ≡ None
DenotesUpperBound low (bounded digits) high = (high ≡ Some (number digits)) × (low ≤ number digits) × (number digits ≤ largest_bound)

-- absent bounds are `[0:?]`
abbrev pub DenotesBounds : Option Bounds → ℕ → Option ℕ → Type 0
DenotesBounds None low high = (low ≡ 0) × (high ≡ None)
DenotesBounds (Some bounds) low high = (low ≡ number bounds.low) × (low ≤ largest_bound) × DenotesUpperBound low bounds.high high

-- The type that is written, where each name is that of an entity or a type of the schema. An array has an upper bound
pub data DenotesType (s : Schema) : WrittenType → TypeUse → Type 0 where
  is_integer : DenotesType s integer_type schema.whole
  is_real : (precision : Option (List ℕ)) → DenotesType s (real_type precision) schema.real
  is_number : DenotesType s number_type schema.number
  is_boolean : DenotesType s boolean_type schema.boolean
  is_logical : DenotesType s logical_type schema.logical
  is_string : (written : Option written.Width) (width : Option schema.Width) → DenotesWidth written width → DenotesType s (string_type written) (schema.text width)
  is_binary : (written : Option written.Width) (width : Option schema.Width) → DenotesWidth written width → DenotesType s (binary_type written) (schema.bits width)
  is_entity : (name : List ℕ) (e : ℕ) → EntityNamed s e name → DenotesType s (named_type name) (schema.entity e)
  is_defined : (name : List ℕ) (t : ℕ) → TypeNamed s t name → DenotesType s (named_type name) (schema.defined t)
  is_array : (bounds : Bounds) (low high : ℕ) (optional unique : Bool) (element : WrittenType) (type : TypeUse) → DenotesBounds (Some bounds) low (Some high) → DenotesType s element type
      → DenotesType s (array_type bounds optional unique element) (schema.array low high optional unique type)
  is_list : (bounds : Option Bounds) (low : ℕ) (high : Option ℕ) (unique : Bool) (element : WrittenType) (type : TypeUse) → DenotesBounds bounds low high → DenotesType s element type
      → DenotesType s (list_type bounds unique element) (schema.list low high unique type)
  is_set : (bounds : Option Bounds) (low : ℕ) (high : Option ℕ) (element : WrittenType) (type : TypeUse) → DenotesBounds bounds low high → DenotesType s element type → DenotesType s (set_type bounds element) (schema.set low high type)
  is_bag : (bounds : Option Bounds) (low : ℕ) (high : Option ℕ) (element : WrittenType) (type : TypeUse) → DenotesBounds bounds low high → DenotesType s element type → DenotesType s (bag_type bounds element) (schema.bag low high type)
