-- What is found of an instance.
use Rattle.std.specs.Prelude.{◌≡◌, ◌≢◌, ℕ, List, Result, Ok, Err}
use Rattle.p21_spec_laws.specs.Needs.{MeansWithNeeds}
use Rattle.p21_spec_exchange.specs.Record.{Record}
use Rattle.p21_spec_file.specs.BrokenRule.{Breaks}
use Rattle.p21_spec_file.specs.CanonicalTexts.{IsInstanceText}
use Rattle.p21_spec_file.specs.Meaning.{Typed}
use Rattle.p21_spec_file.specs.Reference.{Need}
use Rattle.p21_mapping.specs.Checked.{needs_view}
use Rattle.p21_mapping_values.specs.TypedView.{ids_view}
use Rattle.p21_spec_schema.specs.Schema.{Schema}
use Rattle.p21_stream_statements.specs.Fault.{fault_number}
use Rattle.p21_stream_statements.specs.declared.fault.Fault.{Fault}
use Rattle.p21_stream_statements.specs.declared.fault.Fault.TheVariants.{NoMemory}
use Rattle.p21_stream_kept.specs.declared.found.Found.{Found}

-- the record has a meaning of these entities and with these needs, and the instance has this canonical text
pub record HasFound (s : Schema) (n : ℕ) (record_ : Record) (entities : List ℕ) (needs : List Need) (text : List ℕ) : Type 0 where
  pub meaning : Typed
  pub meant : MeansWithNeeds s record_ meaning needs
  pub entities_are : meaning.entities ≡ entities
  pub printed : IsInstanceText s n record_ text

-- this is found of an instance, with this canonical text, or its record breaks the rule of the number
abbrev pub FindsInstance : Schema → ℕ → Record → Result Found Fault → List ℕ → Type 0
FindsInstance s n record_ (Ok found) text = HasFound s n record_ (ids_view found.entities) (needs_view found.needs.items) text
FindsInstance s n record_ (Err fault) text = fault ≢ NoMemory → Breaks s record_ (fault_number fault)
