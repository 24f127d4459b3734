-- What a file means (ISO 10303-21, header section, data sections, and mapping from EXPRESS to the exchange structure).
use Rattle.std.specs.Prelude.{◌≡◌, ℕ, List, map, nat_eq}
use Rattle.std.specs.List.{AllZip, IsDistinct, flat_map, AllByRecursion as Each}
use Rattle.std.specs.Str.{bytes_eq}
use Rattle.p21_spec_exchange.specs.DataSection.{Heading, unnamed, named, DataSection, headings, instances_in, section_names}
use Rattle.p21_spec_exchange.specs.Grammar.{InGrammar}
use Rattle.p21_spec_file.specs.Reference.{EntitySets}
use Rattle.p21_spec_file.specs.Meaning.{Typed, RecordMeans}
use Rattle.p21_spec_exchange.specs.Record.{Part, Record}
use Rattle.p21_spec_schema.specs.Schema.{Schema}
use Rattle.p21_spec_schema.specs.SchemaName.{NamesSchema}
use Rattle.p21_spec_exchange.specs.Structure.{Structure}

-- the meaning of a file: its header as untyped records, its schema's name, its sections by their headings, and its
-- instances by their names, each with its section
pub record FileMeaning : Type 0 where
  pub header : List Part
  pub schema : List ℕ
  pub sections : List Heading
  pub instances : List (ℕ × Typed)
  pub instance_sections : List (ℕ × Heading)

-- the set of entities of each instance
abbrev pub entity_sets_of : List (ℕ × Typed) → EntitySets
entity_sets_of instances = map (λ i. (i.0, i.1.entities)) instances

-- an instance means this under the same name
abbrev pub InstanceMeans : Schema → EntitySets → ℕ × Record → ℕ × Typed → Type 0
InstanceMeans s kinds written meant = (meant.0 ≡ written.0) × RecordMeans s kinds written.1 meant.1

-- each instance name of a section, with its heading
abbrev pub names_with_heading : DataSection → List (ℕ × Heading)
names_with_heading x = map (λ i. (i.0, x.heading)) x.instances

-- a section with a name names the schema by its schema text
abbrev pub HeadingNamesSchema : List ℕ → Heading → Type 0
HeadingNamesSchema schema unnamed = Unit {0}
HeadingNamesSchema schema (named name text) = NamesSchema text schema

-- The bytes are some tree, which names the schema in its header and in each section with a name; all names of sections
-- differ, and all instance names, over all sections; and each record has a meaning among the others
pub record Reads (s : Schema) (bytes : List ℕ) (meaning : FileMeaning) : Type 0 where
  pub structure : Structure
  pub schema_text : List ℕ
  pub in_grammar : InGrammar bytes structure schema_text
  pub names_schema : NamesSchema schema_text s.name
  pub sections_name_schema : Each (HeadingNamesSchema s.name) (headings structure.sections)
  pub section_names_differ : IsDistinct bytes_eq (section_names (headings structure.sections))
  pub names_differ : IsDistinct nat_eq (map (λ i. i.0) (instances_in structure.sections))
  pub means : AllZip (InstanceMeans s (entity_sets_of meaning.instances)) (instances_in structure.sections) meaning.instances
  pub header_is : meaning.header ≡ structure.header
  pub schema_is : meaning.schema ≡ s.name
  pub sections_are : meaning.sections ≡ headings structure.sections
  pub instance_sections_are : meaning.instance_sections ≡ flat_map names_with_heading structure.sections
