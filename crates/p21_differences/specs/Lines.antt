-- The meaning of a file by the canonical lines of its instances.
use Rattle.std.specs.Prelude.{◌↔◌, ℕ, List, Contains}
use Rattle.p21_model.specs.Kept.{IsKeptLine}
use Rattle.p21_spec_exchange.specs.Record.{Record}
use Rattle.p21_spec_file.specs.CanonicalTexts.{IsInstanceText}
use Rattle.p21_spec_file.specs.File.{FileMeaning}
use Rattle.p21_spec_file.specs.Meaning.{Typed}
use Rattle.p21_spec_file.specs.SameFile.{SameTyped}
use Rattle.p21_spec_numbering.specs.Renamed.{names}
use Rattle.p21_spec_schema.specs.Schema.{Schema}
use Rattle.p21_stream_store.specs.StoredInstance.{StoredInstance, instance_names}

-- the line is the canonical statement of an instance of this name, and means this
pub record IsLineOf (s : Schema) (name : ℕ) (line : List ℕ) (meaning : Typed) : Type 0 where
  pub record_ : Record
  pub stated : IsInstanceText s name record_ line
  pub same : SameTyped stated.canonical_meaning meaning

-- the lines that are kept are those of the instances of the file, which means this
pub record AreLinesOf (s : Schema) (m : FileMeaning) (kept : List StoredInstance) : Type 0 where
  pub names_are : (name : ℕ) → Contains (names m) name ↔ Contains (instance_names kept) name
  pub lines_are : (name : ℕ) (line : List ℕ) (meaning : Typed) → IsKeptLine kept name line → Contains m.instances (name, meaning)
      → IsLineOf s name line meaning
