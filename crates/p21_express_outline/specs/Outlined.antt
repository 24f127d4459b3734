-- The parts of a schema of which nothing is redeclared yet.
use Rattle.std.specs.Prelude.{◌≡◌, ℕ, List, map, Vec, Result, Ok, Err}
use Rattle.p21_spec_schema.specs.Schema.{Schema}
use Rattle.p21_express_outline.specs.Finding.{RefusalShows}
use Rattle.p21_express_outline.specs.declared.fault.SchemaFault.{SchemaFault}
use Rattle.p21_express_outline.specs.Bare.{bare}
use Rattle.p21_express_outline.specs.Outline.{IsOutline}
use Rattle.p21_express_syntax.specs.Digest.{SchemaDigest}
use Rattle.p21_express_graph.specs.SchemaContents.{schema_of, AreNamed}
use Rattle.p21_express_graph.specs.declared.schema_contents.SchemaContents.{SchemaContents}
use Rattle.p21_express_graph.specs.declared.number.EntityId.{EntityId}

-- the numbers of a list of entities
abbrev pub list_of : {Z : Type 0} → Vec EntityId Z → List ℕ
list_of listed = map (λ e. e.0) listed.items

-- the parts are the outline, or there is none
abbrev pub OutlineFound : SchemaDigest → Result SchemaContents SchemaFault → Type 0
OutlineFound k (Ok parts) = IsOutline k (schema_of parts) × AreNamed parts × (bare (schema_of parts) ≡ schema_of parts)
OutlineFound k (Err fault) = RefusalShows fault ((s : Schema) → IsOutline k s → ⊥)
