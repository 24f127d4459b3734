-- What entities redeclare, put into them.
use Rattle.std.specs.Prelude.{false, List, [], map}
use Rattle.std.specs.List.{zip}
use Rattle.p21_spec_schema.specs.Schema as pure
use Rattle.p21_express_graph.specs.declared.schema_contents.Redeclarations.{Redeclarations}
use Rattle.p21_express_graph.specs.SchemaContents.{redeclared}
use Rattle.p21_express_graph.specs.Meaning.{place}

-- an entity of which no more is known than what it redeclares
abbrev pub redeclaring : Redeclarations → pure.Entity
redeclaring found = record { name = []; is_abstract = false; supertypes = []; attributes = []; redeclared = map redeclared found.redeclared.items; derived = map place found.derived.items }

-- an entity that redeclares what another one does
abbrev pub redeclaring_as : pure.Entity → pure.Entity → pure.Entity
redeclaring_as x y = record { name = x.name; is_abstract = x.is_abstract; supertypes = x.supertypes; attributes = x.attributes; redeclared = y.redeclared; derived = y.derived }

-- each entity redeclares what the other of its number does
abbrev pub redeclaring_each : List pure.Entity → List pure.Entity → List pure.Entity
redeclaring_each xs ys = map (λ p. redeclaring_as p.0 p.1) (zip xs ys)

-- the same for those of a schema
abbrev pub redeclaring_schema : pure.Schema → List pure.Entity → pure.Schema
redeclaring_schema s ys = record { name = s.name; entities = redeclaring_each s.entities ys; types = s.types; one_of_lists = s.one_of_lists }
