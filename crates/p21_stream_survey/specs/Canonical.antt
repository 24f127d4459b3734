-- What an accepted file is.
use Rattle.std.specs.Prelude.{ℕ, List, map, Contains}
use Rattle.std.specs.List.Sorted.{IsPermutation}
use Rattle.p21_spec_basics.specs.Limits.{Limits}
use Rattle.p21_spec_exchange.specs.DataSection.{instances_in}
use Rattle.p21_spec_exchange.specs.Grammar.{InGrammar}
use Rattle.p21_spec_exchange.specs.Record.{Record}
use Rattle.p21_spec_exchange.specs.Structure.{Structure}
use Rattle.p21_spec_file.specs.Accepted.{IsCanonicalFile}
use Rattle.p21_spec_file.specs.CanonicalTexts.{IsInstanceText}
use Rattle.p21_spec_schema.specs.Schema.{Schema}
use Rattle.p21_stream_output.specs.Output.{Output, output_text}
use Rattle.p21_stream_store.specs.StoredInstance.{StoredInstance, instance_names}

-- these are the instances of the file, each once: the names of its tree, and canonical statements of its records
pub record AreInstancesOf (s : Schema) (bytes : List ℕ) (kept : List StoredInstance) : Type 0 where
  pub structure : Structure
  pub schema_text : List ℕ
  pub in_grammar : InGrammar bytes structure schema_text
  pub names_are : IsPermutation (map (λ (i : ℕ × Record). i.0) (instances_in structure.sections)) (instance_names kept)
  pub texts_are : (x : StoredInstance) → Contains kept x
      → (record_ : Record) × Contains (instances_in structure.sections) (x.name, record_) × IsInstanceText s x.name record_ x.text

-- what is written is the canonical file of the bytes, and its instances are stored
pub record IsCanonicalOutput (s : Schema) (limits : Limits) (bytes : List ℕ) (output : Output) : Type 0 where
  pub is_canonical : IsCanonicalFile s limits bytes (output_text output)
  pub instances_are : AreInstancesOf s bytes output.kept
