-- A file read under a schema.
use Rattle.std.specs.Prelude.{Option, ◌≡◌, ◌⊎◌, ℕ, List, []}
use Rattle.std.specs.Io.KnownBytes.{Keeps}
use Rattle.p21_spec_basics.specs.Limits.{usual}
use Rattle.p21_commands.specs.Refusals.{IsOfFile, refusal_line}
use Rattle.p21_commands.specs.Load.{DeclaresRead, IsSchemaRefused}
use Rattle.p21_spec_schema.specs.Schema.{Schema}
use Rattle.p21_stream.specs.ReaderInput.{IsAcceptedInput, IsRefused, RefusesRead}
use Rattle.p21_stream_output.specs.Output.{Output}
use Rattle.p21_stream_statements.specs.declared.refusal.Refusal.{Refusal}

-- the file is accepted as this under the schema that its reader declares
pub record IsAcceptedUnder (schema file_old file_new : Option (List ℕ)) (output : Output) : Type 0 where
  pub declared : Schema
  pub declares : DeclaresRead schema declared
  pub accepted : IsAcceptedInput declared usual file_old file_new output

-- the line, behind a word for the file, names a fault of the file, for which it is refused under the schema
pub record IsFileRefused (word : List ℕ) (schema file_old file_new : Option (List ℕ)) (line : List ℕ) : Type 0 where
  pub declared : Schema
  pub declares : DeclaresRead schema declared
  pub refusal : Refusal
  pub of_file : IsOfFile refusal.fault
  pub refused : IsRefused declared usual file_old file_new
  pub refuses : RefusesRead declared usual file_old file_new refusal.fault
  pub line_is : line ≡ refusal_line word refusal

-- the line is of the schema, and the file isn't read; or it is of the file
abbrev pub IsRefusedUnder : Option (List ℕ) → Option (List ℕ) → Option (List ℕ) → List ℕ → Type 0
IsRefusedUnder schema file_old file_new line = (IsSchemaRefused schema line × Keeps file_old file_new)
    ⊎ IsFileRefused [] schema file_old file_new line
