-- New attributes of one type.
use Rattle.std.specs.Prelude.{ℕ, Bool, List, map}
use Rattle.p21_spec_schema.specs.Schema.{Attribute, TypeUse}
use Rattle.p21_express_syntax.specs.Digest.{TypeDigest, AttributesDigest}
use Rattle.p21_express_syntax.specs.declared.attributes.AttributeName.{AttributeName}
use Rattle.p21_express_outline.specs.Outline.{digest_own_names}

-- those of some names
abbrev pub own_of : AttributesDigest → List AttributeName → List (List ℕ × Bool × TypeDigest)
own_of x names = map (λ name. (name, x.optional, x.type)) (digest_own_names names)

-- an attribute of this name
abbrev pub attribute_with : Bool → TypeUse → List ℕ → Attribute
attribute_with optional type name = record { name = name; optional = optional; type = type }

-- the attributes themselves, of a type whose names are resolved
abbrev pub own_with : Bool → TypeUse → List AttributeName → List Attribute
own_with optional type names = map (attribute_with optional type) (digest_own_names names)
