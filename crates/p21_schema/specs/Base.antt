-- What a type comes down to where a declared type just renames another one (ISO 10303-11, Defined data type).
use Rattle.std.specs.Prelude.{◌≡◌, ℕ, Some}
use Rattle.p21_spec_schema.specs.Schema.{Schema, TypeUse, defined, items, kind_of}
use Rattle.p21_spec_schema.specs.Select.{IsSelect}
use Rattle.p21_express_graph.specs.Meaning.{type_use}
use Rattle.p21_express_graph.specs.DirectRenaming.{ComesTo, IsPlain}
use Rattle.p21_schema.specs.declared.base.Base.{Base}
use Rattle.p21_schema.specs.declared.base.Base.TheVariants.{Plain, Items, Select}

-- the type is this one and no declared type, or an enumeration of these items, or this select
abbrev pub IsBase : Schema → TypeUse → Base → Type 0
IsBase s type (Plain found) = (type ≡ type_use found.now) × IsPlain type
IsBase s type (Items words) = (t : ℕ) × (type ≡ defined t) × (kind_of s t ≡ Some (items words.now))
IsBase s type (Select t) = (type ≡ defined t.0) × IsSelect s t.0

-- one comes from the type to this base
abbrev pub HasBase : Schema → TypeUse → Base → Type 0
HasBase s type base = (last : TypeUse) × ComesTo s type last × IsBase s last base
