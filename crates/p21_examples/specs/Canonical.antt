-- What a file is under the text of a schema.
use Rattle.std.specs.Prelude.{◌≢◌, ℕ, List}
use Rattle.p21_examples.specs.declared.canonical.Problem.{Problem}
use Rattle.p21_examples.specs.declared.canonical.Problem.TheVariants.{OfSchema, OfFile}
use Rattle.p21_stream.specs.p21_spec_file.Accepted.{IsAccepted}
use Rattle.p21_stream.specs.Answers.{IsOnlyCanonicalFile}
use Rattle.p21_stream.specs.p21_spec_schema.Declared.{Declares}
use Rattle.p21_stream.specs.declared.Fault.TheVariants as file_fault
use Rattle.p21_stream.specs.p21_spec_basics.Limits.{Limits}
use Rattle.p21_stream.specs.p21_spec_schema.Schema.{Schema}
use Rattle.p21_stream.specs.declared.SchemaFault.TheVariants as schema_fault

-- the text declares a schema, and this is the canonical file under it
pub record IsCanonicalUnder (schema_text : List ℕ) (limits : Limits) (file canonical : List ℕ) : Type 0 where
  pub schema : Schema
  pub declared : Declares schema_text schema
  pub is_only : IsOnlyCanonicalFile schema limits file canonical

-- the text declares a schema, and the file isn't accepted under it
pub record IsNotAcceptedUnder (schema_text : List ℕ) (limits : Limits) (file : List ℕ) : Type 0 where
  pub schema : Schema
  pub declared : Declares schema_text schema
  pub not_accepted : ¬ IsAccepted schema limits file

-- want of memory apart, the text declares no schema, or the file isn't accepted
abbrev pub IsRefusedUnder : List ℕ → Limits → List ℕ → Problem → Type 0
IsRefusedUnder schema_text limits file (OfSchema fault) = fault ≢ schema_fault.NoMemory → (schema : Schema) → Declares schema_text schema → ⊥
IsRefusedUnder schema_text limits file (OfFile refusal) = refusal.fault ≢ file_fault.NoMemory → IsNotAcceptedUnder schema_text limits file
