-- The law of the lines of an accepted file.
use Rattle.std.specs.Prelude.{ℕ, List, Contains, map}
use Rattle.std.specs.List.Sorted.{IsPermutation}
use Rattle.p21_differences.specs.Lines.{AreLinesOf}
use Rattle.p21_spec_exchange.specs.DataSection.{instances_in}
use Rattle.p21_spec_exchange.specs.Grammar.{InGrammar}
use Rattle.p21_spec_exchange.specs.Record.{Record}
use Rattle.p21_spec_exchange.specs.Structure.{Structure}
use Rattle.p21_spec_file.specs.CanonicalTexts.{IsInstanceText}
use Rattle.p21_spec_file.specs.File.{FileMeaning, Reads}
use Rattle.p21_spec_schema.specs.Schema.{Schema}
use Rattle.p21_spec_schema.specs.WellFormed.{IsWellFormed}
use Rattle.p21_stream_store.specs.StoredInstance.{StoredInstance, instance_names}

-- these are the instances of the file, each once: the names of its tree, and canonical statements of its records
pub record AreKept (s : Schema) (bytes : List ℕ) (kept : List StoredInstance) : Type 0 where
  pub structure : Structure
  pub schema_text : List ℕ
  pub in_grammar : InGrammar bytes structure schema_text
  pub names_are : IsPermutation (map (λ (i : ℕ × Record). i.0) (instances_in structure.sections)) (instance_names kept)
  pub texts_are : (x : StoredInstance) → Contains kept x
      → (record_ : Record) × Contains (instances_in structure.sections) (x.name, record_) × IsInstanceText s x.name record_ x.text

-- the lines of these tell what the file means
abbrev pub LinesAreOfMeaning : Type 0
LinesAreOfMeaning = (s : Schema) → IsWellFormed s → (bytes : List ℕ) (m : FileMeaning) → Reads s bytes m → (kept : List StoredInstance)
    → AreKept s bytes kept → AreLinesOf s m kept
