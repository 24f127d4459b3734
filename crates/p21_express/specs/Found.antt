-- What is found of the redeclarations of an entity.
use Rattle.std.specs.Prelude.{◌≡◌, ℕ, List, map, Result, Ok, Err}
use Rattle.p21_spec_schema.specs.Redeclaration.{IsOwnPlace}
use Rattle.p21_spec_schema.specs.Schema.{Schema, Place, Entity}
use Rattle.p21_express_outline.specs.Finding.{RefusalShows}
use Rattle.p21_express_outline.specs.declared.fault.SchemaFault.{SchemaFault}
use Rattle.p21_express_graph.specs.declared.schema_contents.Redeclarations.{Redeclarations}
use Rattle.p21_express_outline.specs.Outline.{Named}
use Rattle.p21_express_outline.specs.Redeclarations.{RedeclarationsAre}
use Rattle.p21_express_syntax.specs.Digest.{EntityDigest}
use Rattle.p21_express_graph.specs.SchemaContents.{redeclared}
use Rattle.p21_express_graph.specs.Meaning.{place}

-- no two attributes that an entity declares itself have one name
abbrev pub HasDistinctAttributes : Schema → Type 0
HasDistinctAttributes s = (e : ℕ) (name : List ℕ) (p q : Place) → IsOwnPlace s e name p → IsOwnPlace s e name q → p ≡ q

-- an entity with these redeclarations redeclares what its declaration says, or no entity does
abbrev pub RedeclarationsFound : Schema → Named → List EntityDigest → ℕ → EntityDigest → Result Redeclarations SchemaFault → Type 0
RedeclarationsFound s n entities e x (Ok found) = (y : Entity) → y.redeclared ≡ map redeclared found.redeclared.items
    → y.derived ≡ map place found.derived.items → RedeclarationsAre s n entities e x y
RedeclarationsFound s n entities e x (Err fault) = RefusalShows fault ((y : Entity) → RedeclarationsAre s n entities e x y → ⊥)
