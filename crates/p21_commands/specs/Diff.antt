-- What `p21 diff` writes.
use Rattle.std.specs.Prelude.{ℕ, Bool, List}
use Rattle.p21_spec_basics.specs.Limits.{usual}
use Rattle.p21_commands.specs.Load.{DeclaresRead}
use Rattle.p21_commands.specs.Same.{Read}
use Rattle.p21_commands.specs.Unlisted.{MayAllBeMeant}
use Rattle.p21_difference_rows.specs.Listed.{IsList}
use Rattle.p21_difference_rows.specs.RealNames.{as_they_stand}
use Rattle.p21_difference_rows.specs.declared.row.RowForm.{RowForm}
use Rattle.p21_spec_differences.specs.LeftOut.{LeftOut}
use Rattle.p21_spec_file.specs.Accepted.{Means}
use Rattle.p21_spec_file.specs.File.{FileMeaning}
use Rattle.p21_spec_schema.specs.Schema.{Schema}
use Rattle.p21_stream.specs.Answers.{Compares}

-- the text lists what differs in what both files mean and isn't left out, and they are compared
pub record Lists (form : RowForm) (left : LeftOut) (s : Schema) (read : Read) (same empty : Bool) (text : List ℕ) : Type 0 where
  pub compares : Compares s usual read.first_old read.first_new read.second_old read.second_new same
  pub list : (a b : FileMeaning) → Means s usual compares.first.bytes a → Means s usual compares.second.bytes b
      → IsList form s as_they_stand left a b same empty text

-- the text lists what differs in both files, which are accepted under the schema that its reader declares, and isn't left out; the answer
-- is whether nothing is listed
pub record IsDifferenceList (form : RowForm) (left : LeftOut) (read : Read) (empty : Bool) (text : List ℕ) : Type 0 where
  pub declared : Schema
  pub declares : DeclaresRead read.schema declared
  pub meant : MayAllBeMeant declared left
  pub same : Bool
  pub lists : Lists form left declared read same empty text
