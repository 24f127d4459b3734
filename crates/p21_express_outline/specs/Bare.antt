-- A schema without its redeclarations.
use Rattle.std.specs.Prelude.{[], map}
use Rattle.p21_spec_schema.specs.Schema.{Schema, Entity}

abbrev pub bare_entity : Entity → Entity
bare_entity x = record {
  name = x.name;
  is_abstract = x.is_abstract;
  supertypes = x.supertypes;
  attributes = x.attributes;
  redeclared =
      [];
  derived = [];
}

abbrev pub bare : Schema → Schema
bare s = record { name = s.name; entities = map bare_entity s.entities; types = s.types; one_of_lists = s.one_of_lists }
