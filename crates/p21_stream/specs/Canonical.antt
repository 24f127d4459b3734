-- What an accepted file is: as in p21_stream_survey, and what is counted of it.
use Rattle.std.specs.Prelude.{◌≡◌, ℕ, List, length}
use Rattle.p21_spec_basics.specs.Limits.{Limits}
use Rattle.p21_spec_schema.specs.Schema.{Schema}
use Rattle.p21_stream.specs.declared.counting.Counted.{Counted}
use Rattle.p21_stream_output.specs.Output.{Output, output_text}
pub use Rattle.p21_stream_survey.specs.Canonical.{AreInstancesOf, IsCanonicalOutput}

-- what is counted of accepted bytes: as many instances as are written, and the bytes of the canonical file
pub record IsCounted (s : Schema) (limits : Limits) (bytes : List ℕ) (counted : Counted) : Type 0 where
  pub output : Output
  pub accepted : IsCanonicalOutput s limits bytes output
  pub instances_are : counted.instances ≡ length output.kept
  pub bytes_are : counted.bytes ≡ length (output_text output)
