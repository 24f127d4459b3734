-- The law of schemas that the others rest on.
use Rattle.p21_spec_schema.specs.Declared.{DeclaresSchema}
use Rattle.p21_spec_schema.specs.Schema.{Schema}
use Rattle.p21_spec_schema.specs.SchemaDeclaration.{SchemaDeclaration}
use Rattle.p21_spec_schema.specs.WellFormed.{IsWellFormed}

-- a schema that is declared is well formed
abbrev pub DeclaredIsWellFormed : Type 0
DeclaredIsWellFormed = (tree : SchemaDeclaration) (s : Schema) → DeclaresSchema tree s → IsWellFormed s
