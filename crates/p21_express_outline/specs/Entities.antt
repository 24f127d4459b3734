-- An entity of which nothing is redeclared yet.
use Rattle.std.specs.Prelude.{◌≡◌, []}
use Rattle.p21_spec_schema.specs.Schema.{Entity}
use Rattle.p21_express_syntax.specs.Digest.{EntityDigest}
use Rattle.p21_express_outline.specs.Outline.{Named, EntityOutline}

abbrev pub EntityFound : Named → EntityDigest → Entity → Type 0
EntityFound n x found = EntityOutline n x found × (found.redeclared ≡ []) × (found.derived ≡ [])
