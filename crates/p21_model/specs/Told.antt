-- What is told of an instance, by its line in the canonical file.
use Rattle.std.specs.Prelude.{ℕ, List, Option}
use Rattle.p21_model.specs.declared.attributes.Attributes.{Attributes}
use Rattle.p21_model.specs.Found.{HasAt}
use Rattle.p21_model.specs.Left.{TellsRows}
use Rattle.p21_model.specs.Rows.{AreMeant, AreRowsOf, Row}
use Rattle.p21_model_values.specs.declared.value.Value.{Value}
use Rattle.p21_spec_exchange.specs.Record.{Record}
use Rattle.p21_spec_file.specs.CanonicalTexts.{IsInstanceText}
use Rattle.p21_spec_schema.specs.Schema.{Place, Schema}

-- these are the parameters of the canonical record, and each stands for the value that the record means at its place
pub record AreTold {s : Schema} {n : ℕ} {record_ : Record} {text : List ℕ} (stated : IsInstanceText s n record_ text)
    (rows : List Row) : Type 0 where
  pub are : AreRowsOf s stated.canonical rows
  pub meant : AreMeant s stated.kinds stated.canonical_meaning rows

-- all of them are handed out
pub record TellsInstance {s : Schema} {n : ℕ} {record_ : Record} {text : List ℕ} (stated : IsInstanceText s n record_ text)
    (attributes : Attributes) : Type 0 where
  pub rows : List Row
  pub told : AreTold stated rows
  pub tells : TellsRows attributes rows

-- the value at a place, or none, where no parameter stands there
pub record TellsValue {s : Schema} {n : ℕ} {record_ : Record} {text : List ℕ} (stated : IsInstanceText s n record_ text) (place : Place)
    (value : Option Value) : Type 0 where
  pub rows : List Row
  pub told : AreTold stated rows
  pub has : HasAt rows place value
