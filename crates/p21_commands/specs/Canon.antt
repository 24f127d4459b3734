-- What `p21 canon` writes.
use Rattle.std.specs.Prelude.{Option, ℕ, List}
use Rattle.p21_spec_basics.specs.Limits.{usual}
use Rattle.p21_commands.specs.Load.{DeclaresRead}
use Rattle.p21_spec_schema.specs.Schema.{Schema}
use Rattle.p21_stream.specs.Answers.{IsCanonicalOfRead}

-- the text is the canonical file of what was read under the schema that its reader declares
pub record IsCanonicalUnder (schema file_old file_new : Option (List ℕ)) (text : List ℕ) : Type 0 where
  pub declared : Schema
  pub declares : DeclaresRead schema declared
  pub canonical : IsCanonicalOfRead declared usual file_old file_new text
