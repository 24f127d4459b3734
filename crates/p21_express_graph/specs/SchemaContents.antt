-- The schema that is made of parts. A contract speaks of the schema of a `Schema` by its model: where `schema : &Schema`,
-- `schema.now` is that schema of the definitions.
use Rattle.std.specs.Prelude.{◌≡◌, map}
use Rattle.std.specs.Arc.{arc_value}
use Rattle.p21_spec_schema.specs.Schema as pure
use Rattle.p21_express_graph.specs.Meaning.{place, type_use, kind}
use Rattle.p21_express_graph.specs.declared.schema_contents.Attribute.{Attribute}
use Rattle.p21_express_graph.specs.declared.schema_contents.Redeclared.{Redeclared}
use Rattle.p21_express_graph.specs.declared.schema_contents.Entity.{Entity}
use Rattle.p21_express_graph.specs.declared.schema_contents.Defined.{Defined}
use Rattle.p21_express_graph.specs.declared.schema_contents.SchemaContents.{SchemaContents}

abbrev pub attribute : Attribute → pure.Attribute
attribute a = record { name = a.name; optional = a.optional; type = type_use (arc_value a.type_use) }

abbrev pub redeclared : Redeclared → pure.Redeclared
redeclared r = record { place = place r.place; optional = r.optional; type = type_use (arc_value r.type_use) }

abbrev pub entity : Entity → pure.Entity
entity x = record {
  name = x.name;
  is_abstract = x.is_abstract;
  supertypes = map (λ e. e.0) x.supertypes.items;
  attributes = map attribute x.attributes.items;
  redeclared = map redeclared x.redeclared.items;
  derived = map place x.derived.items;
}

abbrev pub defined : Defined → pure.Defined
defined x = record { name = x.name; kind = kind x.kind }

abbrev pub schema_of : SchemaContents → pure.Schema
schema_of parts = record {
  name = parts.name;
  entities = map entity parts.entities.items;
  types = map defined parts.types.items;
  one_of_lists = map (λ listed. map (λ e. e.0) listed.items) parts.one_of_lists.items;
}

-- the names of the entities and of the types stand in their order
pub record AreNamed (parts : SchemaContents) : Type 0 where
  pub entities_are : parts.names.entities ≡ map (λ x. x.name) (schema_of parts).entities
  pub types_are : parts.names.types ≡ map (λ x. x.name) (schema_of parts).types
