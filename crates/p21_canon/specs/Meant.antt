-- Typed records that are meant by records.
use Rattle.std.specs.List.{AllByRecursion as Each}
use Rattle.std.specs.Prelude.{List}
use Rattle.p21_spec_laws.specs.Needs.{MeansWithNeeds}
use Rattle.p21_spec_exchange.specs.Record.{Record}
use Rattle.p21_spec_file.specs.Meaning.{Typed}
use Rattle.p21_spec_file.specs.Reference.{Need}
use Rattle.p21_mapping_values.specs.KnownTypes.{HaveKnownTypes}
use Rattle.p21_spec_schema.specs.Schema.{Schema}

-- some record means this, whatever it needs, and each type in its values is one of the schema
pub record IsMeant (s : Schema) (meaning : Typed) : Type 0 where
  pub record_ : Record
  pub needs : List Need
  pub means : MeansWithNeeds s record_ meaning needs
  pub types_known : Each (HaveKnownTypes s) meaning.values
